use Rattle.std.proofs.Common.{◌≡◌, ◌≤◌, ◌^◌, ℤ, pos, to_z, of_z, FitsSigned, Option, IsNone, refl, sym, ap, subst, ◌∙◌, rules}
use Rattle.std.proofs.lemmas.Int.{to_z-of_z}
use Rattle.std.proofs.lemmas.Option.{MatchOption-at_some}
use Rattle.gj_frac.specs.declared.Frac.{Frac}
use Rattle.gj_frac.specs.Fraction.{IsRatio}
use Rattle.gj_fields.specs.Rational.{whole, rational}
use Rattle.gj_problem.proofs.AddedSums.{ok_if_some, whole_ratio}
use Rattle.gj_problem.proofs.WideRoundings.{err_if_none}
use Rattle.gj_problem.proofs.WideScales.{whole_wide}
use Rattle.gj_problem.proofs.scales.whole_number.Goals as goal
use mir.Syntax.{w128}

pub returns-clause-value : goal.returns-clause-value
returns-clause-value c =
    let n = c.in-Ok.signed in
    let fits : FitsSigned w128 n =
    subst (λ (z : ℤ). FitsSigned w128 z) (sym c.in-Ok.ensures.1) c.in-Ok.ensures.0 in
    ok_if_some c.ok_or.result c.new.result (λ x. rational x ≡ whole (pos c.args.n))
    c.ok_or.ensures.ok_part
    (λ x is. whole_ratio x n
    (subst (λ (z : ℤ). IsRatio x z (pos 1)) (to_z-of_z w128 n fits)
    (MatchOption-at_some _ _ x is c.new.ensures.value))
    ∙ ap whole c.in-Ok.ensures.1)

pub returns-clause-wide : goal.returns-clause-wide
returns-clause-wide c =
    let n = c.in-Ok.signed in
    let fits : FitsSigned w128 n =
    subst (λ (z : ℤ). FitsSigned w128 z) (sym c.in-Ok.ensures.1) c.in-Ok.ensures.0 in
    err_if_none c.ok_or.result c.new.result (2 ^ 127 ≤ c.args.n) c.ok_or.ensures.ok_part
    (λ none.
    let nothing : IsNone c.new.result =
    subst (λ (o : Option Frac). IsNone o) (sym none) (search rules) in
    whole_wide c.args.n (to_z w128 (of_z w128 n)) (pos 1)
    (to_z-of_z w128 n fits ∙ c.in-Ok.ensures.1) refl (c.new.ensures.none.0 nothing))
