use Rattle.std.proofs.Common.{◌++◌, sym, subst, subst₂}
use Rattle.gj_frac.specs.declared.Frac.{Frac}
use Rattle.gj_rule.specs.declared.kind.RuleKind.TheVariants.{Gmic}
use Rattle.gj_cut.specs.RowCuts.{HasPart}
use Rattle.gj_problem.proofs.WideRoundings.{handed_on}
use Rattle.gj_cut.proofs.RightSides.{part_inside}
use Rattle.gj_theory.specs.Cuts.{IsGmicValue}
use Rattle.gj_safe_cut.specs.SafeCuts.{HasNoValue, IsWideCut}
use Rattle.gj_safe_cut.proofs.OneCut.{one_kind_value, one_part_and_slopes}
use Rattle.gj_safe_cut.proofs.cutters.ByGmicRowCutter.cut_of_row.Goals as goal

pub returns-clause-cut : goal.returns-clause-cut
returns-clause-cut c =
    let side = c.in-Some.ensures.side in (
      c.of-place.result.f,
      c.slopes.result.up,
      c.slopes.result.down,
      c.slopes.ensures,
      (
        side.0,
        subst (λ (f : Frac). HasPart (Gmic f) c.args.row.right) (sym c.of-place.ensures) side.1,
        c.in_ok-cut.ensures.cut,
      ),
    )

pub returns-in_err-cut-clause-wide : goal.returns-in_err-cut-clause-wide
returns-in_err-cut-clause-wide c = λ fault.
    let side = c.in-Some.ensures.side in (
      c.of-place.result.f,
      c.slopes.result.up,
      c.slopes.result.down,
      c.slopes.ensures,
      side.0,
      subst (λ (f : Frac). HasPart (Gmic f) c.args.row.right) (sym c.of-place.ensures) side.1,
      c.in_err-cut.ensures.wide
          (handed_on c.from_residual.result _ _ c.from_residual.ensures.1 fault),
    )

pub returns-clause-narrow : goal.returns-clause-narrow
returns-clause-narrow c (g, up, down, slopes, not_whole, part, wide) =
    let f = c.of-place.result.f in
    let side = c.in-Some.ensures.side in
    let n = c.args.columns in
    let pieces = c.args.row.slacks.items ++ c.args.row.bounds.items in
    let here : HasPart (Gmic f) c.args.row.right =
    subst (λ (x : Frac). HasPart (Gmic x) c.args.row.right)
    (sym c.of-place.ensures) side.1 in
    let inside = part_inside c.args.row.right f here side.0 in
    let same = one_part_and_slopes c.args.row.right f g c.slopes.result.up up
    c.slopes.result.down down side.0 here part c.slopes.ensures slopes in
    let by_f = subst (λ (x : Frac). IsWideCut (IsGmicValue x)
    (HasNoValue (IsGmicValue x)) up down n pieces) same.0 wide in
    c.in_ok-cut.ensures.narrow (one_kind_value (Gmic f) inside)
    (subst₂ (λ (u d : Frac). IsWideCut (IsGmicValue f) (HasNoValue (IsGmicValue f)) u d n pieces)
    same.1 same.2 by_f)
