use Rattle.std.proofs.Common.{Option, Some, rules, sym, subst, ◌∙◌}
use Rattle.std.proofs.lemmas.Result.{IfOk-weaker, on_ok_weaker}
use Rattle.gj_problem.specs.declared.rounding.RoundedCut.{RoundedCut}
use Rattle.gj_problem.specs.Aggregates.{Weighted}
use Rattle.gj_relaxed.specs.RelaxedProblems.{IsOnGrid}
use Rattle.gj_relaxed.specs.RelaxedSteps.{IsRelaxedOrFree}
use Rattle.gj_relaxed.specs.RelaxedForms.{IsRoundedWithSign, IsSideOf}
use Rattle.gj_relaxed.proofs.SideForms.{form_with, side_from_form, wide_from_form, narrow_from_form}
use Rattle.gj_relaxed.proofs.sides.relaxed_side.Goals as goal

pub returns-then-forms-clause-narrow : goal.returns-then-forms-clause-narrow
returns-then-forms-clause-narrow c =
    λ wide. wide.off_grid (c.requires.forms.on_grid.0 (search rules))

pub returns-in-Some-clause-side : goal.returns-in-Some-clause-side
returns-in-Some-clause-side c =
    let p = c.args.problem.now in
    let n = c.args.grid in
    let k = c.args.constraint.now in
    let t = c.is_turned-is_turned.result in
    let m = c.with_sign-signed.result in
    let w : Weighted = record { multiplier = c.args.multiplier; constraint = k } in
    let off_grid : IsOnGrid n k → ⊥ = λ on. let on_grid = c.requires.forms.on_grid.1 on in
    absurd (cc) in
    let form : IsRoundedWithSign p n k t (Some c.in-Some.made) =
    subst (λ (o : Option RoundedCut). IsRoundedWithSign p n k t o)
    (sym c.rounded.ensures ∙ c.in-Some.is)
    (form_with p n k c.args.forms.now t c.requires.forms) in
    IfOk-weaker c.made_side.result (IsSideOf c.in-Some.made m) (IsRelaxedOrFree p n w)
    (λ s h. side_from_form p n w t c.in-Some.made c.requires.named off_grid
    c.is_turned-is_turned.ensures form m s c.with_sign-signed.ensures h)
    c.made_side.ensures.side

pub returns-in-Some-clause-wide : goal.returns-in-Some-clause-wide
returns-in-Some-clause-wide c = λ fault.
    let p = c.args.problem.now in
    let n = c.args.grid in
    let k = c.args.constraint.now in
    let t = c.is_turned-is_turned.result in
    let m = c.with_sign-signed.result in
    let w : Weighted = record { multiplier = c.args.multiplier; constraint = k } in
    let off_grid : IsOnGrid n k → ⊥ = λ on. let on_grid = c.requires.forms.on_grid.1 on in
    absurd (cc) in
    let form : IsRoundedWithSign p n k t (Some c.in-Some.made) =
    subst (λ (o : Option RoundedCut). IsRoundedWithSign p n k t o)
    (sym c.rounded.ensures ∙ c.in-Some.is)
    (form_with p n k c.args.forms.now t c.requires.forms) in
    wide_from_form p n w t c.in-Some.made c.requires.named off_grid c.is_turned-is_turned.ensures
    form (c.made_side.ensures.wide fault)

pub returns-in-Some-clause-narrow : goal.returns-in-Some-clause-narrow
returns-in-Some-clause-narrow c =
    let p = c.args.problem.now in
    let n = c.args.grid in
    let k = c.args.constraint.now in
    let t = c.is_turned-is_turned.result in
    let m = c.with_sign-signed.result in
    let w : Weighted = record { multiplier = c.args.multiplier; constraint = k } in
    let off_grid : IsOnGrid n k → ⊥ = λ on. let on_grid = c.requires.forms.on_grid.1 on in
    absurd (cc) in
    let form : IsRoundedWithSign p n k t (Some c.in-Some.made) =
    subst (λ (o : Option RoundedCut). IsRoundedWithSign p n k t o)
    (sym c.rounded.ensures ∙ c.in-Some.is)
    (form_with p n k c.args.forms.now t c.requires.forms) in
    on_ok_weaker c.made_side.result
    (narrow_from_form p n w t c.in-Some.made c.requires.named off_grid c.is_turned-is_turned.ensures
    form) c.made_side.ensures.narrow

pub returns-in_ok-made-in-None-clause-side : goal.returns-in_ok-made-in-None-clause-side
returns-in_ok-made-in-None-clause-side c =
    let p = c.args.problem.now in
    let n = c.args.grid in
    let k = c.args.constraint.now in
    let t = c.is_turned-is_turned.result in
    let m = c.with_sign-signed.result in
    let w : Weighted = record { multiplier = c.args.multiplier; constraint = k } in
    let off_grid : IsOnGrid n k → ⊥ = λ on. let on_grid = c.requires.forms.on_grid.1 on in
    absurd (cc) in
    let form : IsRoundedWithSign p n k t (Some c.in_ok-made-in-None.made) =
    c.in_ok-made-in-None.ensures in
    IfOk-weaker c.made_side-in-None.result (IsSideOf c.in_ok-made-in-None.made m)
    (IsRelaxedOrFree p n w)
    (λ s h. side_from_form p n w t c.in_ok-made-in-None.made c.requires.named off_grid
    c.is_turned-is_turned.ensures form m s c.with_sign-signed.ensures h)
    c.made_side-in-None.ensures.side

pub returns-in_ok-made-in-None-clause-wide : goal.returns-in_ok-made-in-None-clause-wide
returns-in_ok-made-in-None-clause-wide c = λ fault.
    let p = c.args.problem.now in
    let n = c.args.grid in
    let k = c.args.constraint.now in
    let t = c.is_turned-is_turned.result in
    let m = c.with_sign-signed.result in
    let w : Weighted = record { multiplier = c.args.multiplier; constraint = k } in
    let off_grid : IsOnGrid n k → ⊥ = λ on. let on_grid = c.requires.forms.on_grid.1 on in
    absurd (cc) in
    let form : IsRoundedWithSign p n k t (Some c.in_ok-made-in-None.made) =
    c.in_ok-made-in-None.ensures in
    wide_from_form p n w t c.in_ok-made-in-None.made c.requires.named off_grid
    c.is_turned-is_turned.ensures form (c.made_side-in-None.ensures.wide fault)

pub returns-in_ok-made-in-None-clause-narrow : goal.returns-in_ok-made-in-None-clause-narrow
returns-in_ok-made-in-None-clause-narrow c =
    let p = c.args.problem.now in
    let n = c.args.grid in
    let k = c.args.constraint.now in
    let t = c.is_turned-is_turned.result in
    let m = c.with_sign-signed.result in
    let w : Weighted = record { multiplier = c.args.multiplier; constraint = k } in
    let off_grid : IsOnGrid n k → ⊥ = λ on. let on_grid = c.requires.forms.on_grid.1 on in
    absurd (cc) in
    let form : IsRoundedWithSign p n k t (Some c.in_ok-made-in-None.made) =
    c.in_ok-made-in-None.ensures in
    on_ok_weaker c.made_side-in-None.result
    (narrow_from_form p n w t c.in_ok-made-in-None.made c.requires.named off_grid
    c.is_turned-is_turned.ensures form) c.made_side-in-None.ensures.narrow
