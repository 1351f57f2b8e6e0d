use Rattle.std.proofs.Common.{rules, ◌≡◌, ◌<◌, ℕ, ℤ, ◌+ℤ◌, ◌*ℤ◌, length, to_z, of_z, ap, subst, ◌∙◌, slice_set}
use Rattle.std.proofs.lemmas.Int.{to_z-of_z}
use Rattle.gj_frac.specs.Fraction.{Fits, IsRatio}
use Rattle.gj_problem.proofs.Combinations.{entry_over}
use Rattle.gj_problem.proofs.combination.Combination.add_entry.Goals as goal
use mir.Syntax.{w128}

pub returns-in-Some-clause-added : goal.returns-in-Some-clause-added
returns-in-Some-clause-added c = λ x x_is cs r h.
    let old = c.args.self.now in
    let ns = old.numerators.items in
    let e = c.args.entry.now in
    let n = c.index-old.result.now in
    let m = c.args.factor in
    let read = to_z-of_z w128 n (search rules) in
    let factor = to_z-of_z w128 m c.ranges.factor in
    let numbers = to_z-of_z w128 old.numbers (search rules) in
    let (a, a_ratio, sum) = c.in-Some.ensures in
    let a_is : IsRatio e.value a old.numbers =
    subst (λ (d : ℤ). IsRatio e.value a d) numbers a_ratio in
    let p_fits : Fits (m *ℤ a) = subst (λ (f : ℤ). Fits (f *ℤ a)) factor sum.product_fits in
    let v = to_z w128 (of_z w128 c.in-Some.new) in
    let t_is : c.in-Some.new ≡ n +ℤ m *ℤ a = sum.is
    ∙ ap (λ z. z +ℤ to_z w128 (of_z w128 m) *ℤ a) read ∙ ap (λ f. n +ℤ f *ℤ a) factor in
    let v_is : v ≡ n +ℤ m *ℤ a = to_z-of_z w128 c.in-Some.new (search rules) ∙ t_is in
    let below : e.column < length ns =
    subst (λ (k : ℕ). e.column < k)
    (c.len.ensures ∙ old.numerators.ok.0) c.if-column-len.true in
    let (ds, over, added) =
    entry_over ns (slice_set ns e.column v) cs x e n m a old.factors old.numbers
    old.denominator.factors_some
    old.denominator.numbers_some old.denominator.fits x_is a_is h.coefficients_are below
    c.index-old.ensures p_fits (subst Fits t_is sum.fits)
    (ap (λ z. slice_set ns e.column z) v_is) in
    (ds, record { coefficients_are = over; right_is = h.right_is }, added)
