use Rattle.std.proofs.Common.{OnErr, OnOk, sym, subst}
use Rattle.gj_relaxed.specs.declared.rows.RightMove.{RightMove}
use Rattle.gj_relaxed.specs.RelaxedRows.{IsWideRight}
use Rattle.gj_relaxed.proofs.rows.moved_right.Goals as goal

pub returns-in-Down-clause-wide : goal.returns-in-Down-clause-wide
returns-in-Down-clause-wide c =
    let made = c.below_on_grid.result in
    subst (λ (move : RightMove). OnErr made (IsWideRight move c.args.grid c.args.right))
    (sym c.in-Down.is) c.below_on_grid.ensures.wide

pub returns-in-Down-clause-narrow : goal.returns-in-Down-clause-narrow
returns-in-Down-clause-narrow c =
    let made = c.below_on_grid.result in
    subst (λ (move : RightMove). OnOk made (IsWideRight move c.args.grid c.args.right → ⊥))
    (sym c.in-Down.is) c.below_on_grid.ensures.narrow
