use Rattle.std.proofs.Common.{rules, ◌≡◌, ◌<◌, ℕ, ℤ, ◌+ℤ◌, ◌*ℤ◌, length, to_z, of_z, sym, ap, ap₂, subst, ◌∙◌, slice_set}
use Rattle.std.proofs.lemmas.Int.{to_z-of_z}
use Rattle.gj_frac.specs.Fraction.{Fits, IsRatio}
use Rattle.gj_problem.proofs.Combinations.{entry_over}
use Rattle.gj_problem.proofs.combination.Combination.add_any_entry.Goals as goal
use mir.Syntax.{w128}

pub returns-clause-added : goal.returns-clause-added
returns-clause-added c = λ x x_is cs r h.
    let new = c.number_over.new.self in
    let ns = new.numerators.items in
    let e = c.args.entry in
    let kept = c.in_ok-value.ensures.same cs r h in
    let n = c.index.result.now in
    let m = c.args.factor in
    let a = c.in_ok-value.value in
    let value = to_z-of_z w128 a (search rules) in
    let factor = to_z-of_z w128 m c.ranges.factor in
    let p_is : c.in_ok-product.product ≡ m *ℤ a =
    simp (value, factor) at c.in_ok-product.ensures.is in
    let both = ap₂ (λ y z. y +ℤ z) (to_z-of_z w128 n (search rules))
    (to_z-of_z w128 c.in_ok-product.product (search rules) ∙ p_is) in
    let t_fits : Fits (n +ℤ m *ℤ a) = subst Fits both c.in_ok-self.ensures.0 in
    let v = to_z w128 (of_z w128 c.in_ok-self.field-0) in
    let v_is : v ≡ n +ℤ m *ℤ a = to_z-of_z w128 c.in_ok-self.field-0 (search rules)
    ∙ c.in_ok-self.ensures.1 ∙ both in
    let below : e.column < length ns =
    subst (λ (k : ℕ). e.column < k)
    (c.len.ensures ∙ new.numerators.ok.0) c.if-column-len.false in
    let x_over : IsRatio x m new.factors =
    subst (λ (d : ℤ). IsRatio x m d) (sym c.in_ok-value.ensures.factors) x_is in
    let (ds, over, added) =
    entry_over ns (slice_set ns e.column v) cs x e n m a new.factors new.numbers
    new.denominator.factors_some
    new.denominator.numbers_some new.denominator.fits x_over c.in_ok-value.ensures.numerator
    kept.coefficients_are below c.index.ensures
    (subst Fits p_is c.in_ok-product.ensures.fits) t_fits
    (ap (λ z. slice_set ns e.column z) v_is) in
    (ds, record { coefficients_are = over; right_is = kept.right_is }, added)
