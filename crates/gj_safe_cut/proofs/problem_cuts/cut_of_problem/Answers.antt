use Rattle.std.proofs.Common.{◌++◌, inl, inr, IfOk, OnOk, List, length, subst}
use Rattle.std.proofs.lemmas.Result.{IfOk-weaker, on_ok_weaker}
use Rattle.gj_problem.specs.Aggregates.{IsRow}
use Rattle.gj_problem.specs.Made.{IsMadeRow}
use Rattle.gj_problem.specs.declared.problem.Column.{Column}
use Rattle.gj_problem.specs.declared.row.MadeRow.{MadeRow}
use Rattle.gj_problem.proofs.WideRoundings.{handed_on}
use Rattle.gj_safe_cut.specs.SafeCuts.{IsOfProblem}
use Rattle.gj_safe_cut.specs.declared.cut.SafeCut.TheVariants.{Wide}
use Rattle.gj_safe_cut.proofs.CutRows.{of_row, narrow_of_row, narrow_of_free}
use Rattle.gj_safe_cut.proofs.problem_cuts.cut_of_problem.Goals as goal

pub returns-in-Row-clause-cut : goal.returns-in-Row-clause-cut
returns-in-Row-clause-cut g c =
    let p = c.args.problem.now in
    let ms = c.args.multipliers.now in
    let ups = c.args.at_upper.now in
    let row = c.in-Row.row in
    let IsOfRow = g.C.RowCutter.is_cut c.args.by.now in
    let pieces = row.slacks.items ++ row.bounds.items in
    let is : IsRow p ms ups pieces row.right =
    subst (λ (made : MadeRow). IsMadeRow p ms ups made) c.in-Row.is c.in_ok-row.ensures.row in
    IfOk-weaker c.cut_of_row.result (IsOfRow (length p.columns) pieces row.right)
    (IsOfProblem IsOfRow p ms ups)
    (of_row IsOfRow p ms ups pieces row.right is
    (g.met.C.RowCutter.never_free c.args.by.now (length p.columns) pieces row.right))
    (subst (λ (cs : List Column). IfOk c.cut_of_row.result
    (IsOfRow (length cs) pieces row.right)) c.as_slice.ensures
    c.cut_of_row.ensures.cut)

pub returns-in-Row-clause-wide : goal.returns-in-Row-clause-wide
returns-in-Row-clause-wide g c = λ fault.
    let p = c.args.problem.now in
    let ms = c.args.multipliers.now in
    let ups = c.args.at_upper.now in
    let row = c.in-Row.row in
    let IsOfRow = g.C.RowCutter.is_cut c.args.by.now in
    let pieces = row.slacks.items ++ row.bounds.items in
    inr (
      pieces,
      row.right,
      subst (λ (made : MadeRow). IsMadeRow p ms ups made) c.in-Row.is c.in_ok-row.ensures.row,
      subst (λ (cs : List Column). IsOfRow (length cs) pieces row.right Wide)
          c.as_slice.ensures (c.cut_of_row.ensures.wide fault),
    )

pub returns-in_err-row-clause-wide : goal.returns-in_err-row-clause-wide
returns-in_err-row-clause-wide g c =
    λ fault. inl (c.in_err-row.ensures.wide
    (handed_on c.from_residual.result _ _ c.from_residual.ensures.1 fault))

pub returns-in-Row-clause-narrow : goal.returns-in-Row-clause-narrow
returns-in-Row-clause-narrow g c =
    let p = c.args.problem.now in
    let ms = c.args.multipliers.now in
    let ups = c.args.at_upper.now in
    let row = c.in-Row.row in
    let IsOfRow = g.C.RowCutter.is_cut c.args.by.now in
    let pieces = row.slacks.items ++ row.bounds.items in
    let is : IsRow p ms ups pieces row.right =
    subst (λ (made : MadeRow). IsMadeRow p ms ups made) c.in-Row.is c.in_ok-row.ensures.row in
    on_ok_weaker c.cut_of_row.result
    (narrow_of_row IsOfRow p ms ups c.in_ok-row.ensures.narrow pieces row.right is)
    (subst (λ (cs : List Column). OnOk c.cut_of_row.result
    (IsOfRow (length cs) pieces row.right Wide → ⊥)) c.as_slice.ensures
    c.cut_of_row.ensures.narrow)

pub returns-in-Free-clause-narrow : goal.returns-in-Free-clause-narrow
returns-in-Free-clause-narrow g c =
    let p = c.args.problem.now in
    let ms = c.args.multipliers.now in
    let ups = c.args.at_upper.now in
    narrow_of_free (g.C.RowCutter.is_cut c.args.by.now) p ms ups c.in_ok-row.ensures.narrow
    c.in-Free.column
    (subst (λ (made : MadeRow). IsMadeRow p ms ups made) c.in-Free.is c.in_ok-row.ensures.row)
