use Rattle.std.proofs.Common.{rules, ◌≡◌, ℤ, pos, ◌<ℤ◌, ◌*ℤ◌, to_z, of_z, ap, sym, subst, ◌∙◌}
use Rattle.std.proofs.lemmas.Int.{to_z-of_z}
use Rattle.gj_frac.specs.Fraction.{Fits}
use Rattle.gj_problem.proofs.Combinations.{none_over}
use Rattle.gj_problem.proofs.combination.Combination.over.Goals as goal
use mir.Syntax.{w128}

pub returns : goal.returns
returns c =
    let common = c.args.common in
    let d = to_z w128 (of_z w128 common) in
    let some : pos 0 <ℤ d =
    subst (λ (z : ℤ). pos 0 <ℤ z) (sym (to_z-of_z w128 common (search rules)))
    c.requires.some in
    let m = to_z w128 (of_z w128 c.in_ok-right.right) in
    let m_same = to_z-of_z w128 c.in_ok-right.right (search rules) ∙ c.in_ok-right.ensures.1 in
    let m_is : m ≡ pos c.args.right *ℤ d = m_same
    ∙ ap (λ x. x *ℤ d) (to_z-of_z w128 c.from.result (search rules) ∙ c.from.ensures) in
    let (cs, r, coefficients, right, none) =
    none_over c.args.columns c.args.right d m c.in_ok-numerators.numerators.items some
    (c.in_ok-numerators.ensures.items_if_clones_equal (λ (y : ℤ) h. h)) m_is
    (subst Fits (sym m_same) c.in_ok-right.ensures.0) (search rules) in
    (cs, r, record { coefficients_are = coefficients; right_is = right }, none)
