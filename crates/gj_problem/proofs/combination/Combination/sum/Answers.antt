use Rattle.std.proofs.Common.{rules, ◌≡◌, ◌*ℤ◌, ℤ, List, to_z, of_z, subst₂, ◌∙◌}
use Rattle.std.specs.List.{AllZip}
use Rattle.std.proofs.lemmas.Int.{to_z-of_z}
use Rattle.gj_frac.specs.declared.Frac.{Frac}
use Rattle.gj_frac.specs.Fraction.{IsRatio}
use Rattle.gj_lemmas.proofs.Integers.{mul_positive_z}
use Rattle.gj_problem.proofs.Combinations.{one_over, one_list_over}
use Rattle.gj_problem.proofs.combination.Combination.sum.Goals as goal
use mir.Syntax.{w128}

pub returns : goal.returns
returns c = λ cs r h.
    let sum = c.args.self in
    let d = sum.factors *ℤ sum.numbers in
    let some = mul_positive_z sum.factors sum.numbers sum.denominator.factors_some
    sum.denominator.numbers_some in
    let factors = to_z-of_z w128 sum.factors (search rules) in
    let numbers = to_z-of_z w128 sum.numbers (search rules) in
    let d_is : to_z w128 (of_z w128 c.in_ok-denominator.denominator) ≡ d =
    to_z-of_z w128 c.in_ok-denominator.denominator (search rules)
    ∙ simp (factors, numbers) at c.in_ok-denominator.ensures.1 in
    let R : ℤ → ℤ → Frac → Type 0 = λ e n x. IsRatio x n e in
    let made : AllZip (R d) sum.numerators.items c.in_ok-coefficients.coefficients.items =
    subst₂ (λ (e : ℤ) (ns : List ℤ). AllZip (R e) ns c.in_ok-coefficients.coefficients.items) d_is
    c.as_slice.ensures.value
    c.in_ok-coefficients.ensures in
    let right : IsRatio c.in_ok-right.right sum.right d =
    subst₂ (λ (n e : ℤ). IsRatio c.in_ok-right.right n e) (to_z-of_z w128 sum.right (search rules))
    d_is c.in_ok-right.ensures in (
      one_list_over d some sum.numerators.items cs c.in_ok-coefficients.coefficients.items
          h.coefficients_are made,
      one_over sum.right d some c.in_ok-right.right r right h.right_is.ratio,
    )
