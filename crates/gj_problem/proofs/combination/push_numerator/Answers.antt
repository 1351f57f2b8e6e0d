use Rattle.std.proofs.Common.{◌≡◌, ℕ, ℤ, pos, ◌*ℤ◌, to_z, inl, refl, sym, ap, subst₂, ◌∙◌}
use Rattle.std.proofs.lemmas.Int.{to_z-of_z}
use Rattle.gj_frac.specs.declared.Frac.{Frac}
use Rattle.gj_frac.specs.Fraction.{IsRatio}
use Rattle.gj_lemmas.proofs.Integers.{mul_cancel_right_z, positive_some_z}
use Rattle.gj_problem.specs.RoundedCuts.{IsZero}
use Rattle.gj_problem.specs.Steps.{IsMadeNext}
use Rattle.gj_problem.specs.EntriesOver.{entry_in}
use Rattle.gj_problem.proofs.Combinations.{one_over}
use Rattle.gj_problem.proofs.combination.push_numerator.Goals as goal
use lib.IntN.{zero-*ℤ}
use mir.Syntax.{w128}

pub returns : goal.returns
returns c = λ x is.
    let v = c.in_ok-value.value in
    let n = c.args.numerator in
    let d = c.args.denominator in
    let v_is : IsRatio v n d =
    subst₂ (λ (a b : ℤ). IsRatio v a b) (to_z-of_z w128 n c.ranges.numerator)
    (to_z-of_z w128 d c.ranges.denominator) c.in_ok-value.ensures in
    subst₂ (λ (j : ℕ) (y : Frac). IsMadeNext (IsZero (entry_in j y))
    (λ e. e ≡ entry_in j y) c.args.entries.now.items c.push_some.new.entries.items)
    c.in-Ok.ensures.1 (one_over n d c.requires v x v_is is) c.in_ok-push_some.ensures.next

pub returns-then-numerator-eq0 : goal.returns-then-numerator-eq0
returns-then-numerator-eq0 c = λ x is.
    let d = c.args.denominator in
    let none : c.args.numerator ≡ pos 0 = sym (to_z-of_z w128 c.args.numerator c.ranges.numerator)
    ∙ ap (to_z w128) c.if-numerator-eq0.true in
    let zero : x.num ≡ pos 0 =
    mul_cancel_right_z x.num (pos 0) d (is ∙ ap (λ z. z *ℤ x.den) none ∙ zero-*ℤ x.den
    ∙ sym (zero-*ℤ d)) (positive_some_z d c.requires) in
    inl (zero, refl)
