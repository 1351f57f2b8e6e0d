use Rattle.std.proofs.Common.{rules, ◌≡◌, ℤ, ◌+ℤ◌, ◌*ℤ◌, to_z, of_z, sym, ap₂, subst, ◌∙◌}
use Rattle.std.proofs.lemmas.Int.{to_z-of_z}
use Rattle.gj_frac.specs.Fraction.{Fits, IsRatio}
use Rattle.gj_problem.specs.Combinations.{IsOver}
use Rattle.gj_problem.proofs.Combinations.{multiple_over, inequality_over}
use Rattle.gj_problem.proofs.combination.Combination.add.Goals as goal
use mir.Syntax.{w128}

pub returns : goal.returns
returns c = λ cs r h.
    let x = c.args.factor in
    let m = c.in_ok-factor.factor in
    let m_same = to_z-of_z w128 m (search rules) in
    let kept = c.in_ok-factor.ensures.same cs r h in
    let (ds, parts, added) =
    c.in_ok-add_entries.ensures.added x
    (subst (λ (z : ℤ). IsRatio x z c.factor_over.new.self.factors)
    (sym m_same) c.in_ok-factor.ensures.numerator)
    cs r kept in
    let new = c.number_over.new.self in
    let d = new.factors *ℤ new.numbers in
    let last = c.in_ok-value.ensures.same ds r parts in
    let n = new.right in
    let a = c.in_ok-value.value in
    let value = to_z-of_z w128 a (search rules) in
    let p_is : c.in_ok-product.field-0 ≡ m *ℤ a =
    simp (value, m_same) at c.in_ok-product.ensures.is in
    let both = ap₂ (λ y z. y +ℤ z) (to_z-of_z w128 n (search rules))
    (to_z-of_z w128 c.in_ok-product.field-0 (search rules) ∙ p_is) in
    let t_fits : Fits (n +ℤ m *ℤ a) = subst Fits both c.in_ok-self.ensures.0 in
    let v = to_z w128 (of_z w128 c.in_ok-self.field-0) in
    let v_is : v ≡ n +ℤ m *ℤ a = to_z-of_z w128 c.in_ok-self.field-0 (search rules)
    ∙ c.in_ok-self.ensures.1 ∙ both in
    let x_over : IsRatio x m new.factors =
    subst (λ (z : ℤ). IsRatio x m z)
    (sym (c.in_ok-value.ensures.factors ∙ c.in_ok-add_entries.ensures.factors))
    c.in_ok-factor.ensures.numerator in
    let (s, s_is, right_added) =
    multiple_over r x c.args.right n m a new.factors new.numbers new.denominator.factors_some
    new.denominator.numbers_some x_over c.in_ok-value.ensures.numerator new.denominator.fits
    last.right_is
    (subst Fits p_is c.in_ok-product.ensures.fits) t_fits in (
      ds,
      s,
      record {
        coefficients_are = last.coefficients_are;
        right_is =
            subst (λ (z : ℤ). IsOver d z s) (sym v_is) s_is;
      },
      inequality_over cs ds r s x c.args.right c.args.entries.now added right_added,
    )
