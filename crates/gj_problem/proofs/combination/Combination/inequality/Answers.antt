use Rattle.std.proofs.Common.{rules, ◌≡◌, ◌≤◌, ◌^◌, ℕ, ℤ, pos, ◌<ℤ◌, ◌*ℤ◌, List, length, to_z, of_z, sym, ap, ap₂, subst, subst₂, ◌∙◌, arith}
use Rattle.std.proofs.lemmas.Int.{to_z-of_z}
use Rattle.std.proofs.lemmas.List.{take_all}
use Rattle.gj_frac.specs.declared.Frac.{Frac}
use Rattle.gj_frac.specs.Fraction.{IsRatio}
use Rattle.gj_lemmas.proofs.Integers.{mul_positive_z}
use Rattle.gj_fields.specs.Rational.{Rational, rational, ◌-ℚ◌}
use Rattle.gj_problem.specs.declared.problem.Entry.{Entry}
use Rattle.gj_problem.specs.Problems.{sum_at, AreTermsWithin}
use Rattle.gj_problem.specs.Rows.{dot}
use Rattle.gj_problem.specs.EntriesOver.{AreEntriesOver}
use Rattle.gj_problem.proofs.Combinations.{one_over, over_length}
use Rattle.gj_problem.proofs.EntriesOver.{over_ratios}
use Rattle.gj_problem.proofs.combination.Combination.inequality.Goals as goal
use mir.Syntax.{w128}

pub entries_over-requires : goal.entries_over-requires
entries_over-requires c =
    let sum = c.args.self in
    let factors = to_z-of_z w128 sum.factors (search rules) in
    let numbers = to_z-of_z w128 sum.numbers (search rules) in
    let d_is : to_z w128 (of_z w128 c.in_ok-denominator.denominator) ≡ sum.factors *ℤ sum.numbers =
    to_z-of_z w128 c.in_ok-denominator.denominator (search rules)
    ∙ simp (factors, numbers) at c.in_ok-denominator.ensures.1 in
    subst (λ (z : ℤ). pos 0 <ℤ z) (sym d_is)
    (mul_positive_z sum.factors sum.numbers sum.denominator.factors_some
    sum.denominator.numbers_some)

pub returns : goal.returns
returns c = λ cs r h.
    let sum = c.args.self in
    let ns = sum.numerators.items in
    let d = sum.factors *ℤ sum.numbers in
    let some = mul_positive_z sum.factors sum.numbers sum.denominator.factors_some
    sum.denominator.numbers_some in
    let factors = to_z-of_z w128 sum.factors (search rules) in
    let numbers = to_z-of_z w128 sum.numbers (search rules) in
    let d_is : to_z w128 (of_z w128 c.in_ok-denominator.denominator) ≡ d =
    to_z-of_z w128 c.in_ok-denominator.denominator (search rules)
    ∙ simp (factors, numbers) at c.in_ok-denominator.ensures.1 in
    let es = c.in_ok-entries.entries.items in
    let made : AreEntriesOver d ns (length ns) es =
    subst₂ (λ (e : ℤ) (ms : List ℤ). AreEntriesOver e ms (length ms) es) d_is
    c.as_slice.ensures.value c.in_ok-entries.ensures.entries in
    let right_is : IsRatio c.in_ok-right.right sum.right d =
    subst₂ (λ (n e : ℤ). IsRatio c.in_ok-right.right n e) (to_z-of_z w128 sum.right (search rules))
    d_is c.in_ok-right.ensures in
    let right : c.in_ok-right.right ≡ r =
    one_over sum.right d some c.in_ok-right.right r right_is h.right_is.ratio in
    let first = made cs (over_ratios d ns cs h.coefficients_are) in
    let count : length ns ≡ length cs = over_length d ns cs h.coefficients_are in
    let all : length cs ≤ length ns = omega (arith, count) in
    let small : length ns ≤ 2 ^ 32 =
    subst (λ (ms : List ℤ). length ms ≤ 2 ^ 32) c.as_slice.ensures.value
    c.in_ok-entries.ensures.few in
    record {
      surplus = λ (point : List Rational).
          ap₂ (λ (w : Rational) (x : Frac). w -ℚ rational x)
          (ap (sum_at point) c.of.ensures ∙ first.sum point
          ∙ ap (λ (xs : List Frac). dot xs point) (take_all (length ns) cs all)) right;
      terms = subst₂ (λ (k : ℕ) (fs : List Entry). AreTermsWithin 0 k fs) count
          (sym c.of.ensures) first.terms;
      few = λ many. omega (arith, many, count, small);
    }
