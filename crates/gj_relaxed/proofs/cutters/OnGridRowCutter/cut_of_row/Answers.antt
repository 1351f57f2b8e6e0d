use Rattle.std.proofs.Common.{◌++◌, inl, inr}
use Rattle.std.proofs.lemmas.Result.{IfOk-weaker, on_ok_weaker}
use Rattle.gj_problem.proofs.WideRoundings.{handed_on}
use Rattle.gj_safe_cut.specs.declared.cut.SafeCut.{SafeCut}
use Rattle.gj_safe_cut.specs.declared.cut.SafeCut.TheVariants.{Wide}
use Rattle.gj_relaxed.specs.RelaxedCuts.{IsOfRelaxedRow}
use Rattle.gj_relaxed.proofs.NarrowRelaxing.{narrow_of_raised_row, narrow_of_loosened_row}
use Rattle.gj_relaxed.proofs.RelaxedCuts.{of_raised_row, of_loosened_row}
use Rattle.gj_relaxed.proofs.cutters.OnGridRowCutter.cut_of_row.Goals as goal

pub returns-clause-cut : goal.returns-clause-cut
returns-clause-cut g c =
    let to = c.args.self.now.to in
    let n = c.args.self.now.grid in
    let IsOfRow = g.C.RowCutter.is_cut c.args.self.now.by in
    let pieces = c.args.row.slacks.items ++ c.args.row.bounds.items in
    let row = c.in_ok-loose.loose in
    let loose = row.slacks.items ++ row.bounds.items in
    let relaxed = c.in_ok-relaxed.relaxed in
    let others = relaxed.slacks.items ++ relaxed.bounds.items in
    IfOk-weaker c.cut_of_row.result (IsOfRow c.args.columns others relaxed.right)
    (IsOfRelaxedRow to n IsOfRow c.args.columns pieces c.args.row.right)
    (λ (cut : SafeCut) h.
    of_loosened_row to n IsOfRow c.args.columns pieces loose c.args.row.right
    row.right c.in_ok-loose.ensures.pieces
    c.in_ok-loose.ensures.right cut
    (of_raised_row to n IsOfRow c.args.columns loose others row.right relaxed.right
    c.in_ok-relaxed.ensures.relaxed cut h))
    c.cut_of_row.ensures.cut

pub returns-clause-wide : goal.returns-clause-wide
returns-clause-wide g c = λ fault.
    let to = c.args.self.now.to in
    let n = c.args.self.now.grid in
    let IsOfRow = g.C.RowCutter.is_cut c.args.self.now.by in
    let row = c.in_ok-loose.loose in
    let relaxed = c.in_ok-relaxed.relaxed in
    of_loosened_row to n IsOfRow c.args.columns
    (c.args.row.slacks.items ++ c.args.row.bounds.items)
    (row.slacks.items ++ row.bounds.items) c.args.row.right row.right c.in_ok-loose.ensures.pieces
    c.in_ok-loose.ensures.right Wide
    (inr (
      relaxed.slacks.items
          ++ relaxed.bounds.items,
      relaxed.right,
      c.in_ok-relaxed.ensures.relaxed,
      c.cut_of_row.ensures.wide fault,
    ))

pub returns-in_err-relaxed-clause-wide : goal.returns-in_err-relaxed-clause-wide
returns-in_err-relaxed-clause-wide g c = λ fault.
    let to = c.args.self.now.to in
    let n = c.args.self.now.grid in
    let IsOfRow = g.C.RowCutter.is_cut c.args.self.now.by in
    let row = c.in_ok-loose.loose in
    of_loosened_row to n IsOfRow c.args.columns
    (c.args.row.slacks.items ++ c.args.row.bounds.items)
    (row.slacks.items ++ row.bounds.items) c.args.row.right row.right c.in_ok-loose.ensures.pieces
    c.in_ok-loose.ensures.right Wide
    (inl (c.in_err-relaxed.ensures.wide
    (handed_on c.from_residual-in_err-relaxed.result _ _ c.from_residual-in_err-relaxed.ensures.1
    fault)))

pub returns-clause-narrow : goal.returns-clause-narrow
returns-clause-narrow g c =
    let to = c.args.self.now.to in
    let n = c.args.self.now.grid in
    let IsOfRow = g.C.RowCutter.is_cut c.args.self.now.by in
    let row = c.in_ok-loose.loose in
    let loose = row.slacks.items ++ row.bounds.items in
    let relaxed = c.in_ok-relaxed.relaxed in
    on_ok_weaker c.cut_of_row.result
    (λ fits.
    narrow_of_loosened_row to n IsOfRow c.args.columns
    (c.args.row.slacks.items ++ c.args.row.bounds.items) loose
    c.args.row.right row.right c.in_ok-loose.ensures.pieces c.in_ok-loose.ensures.right
    (narrow_of_raised_row to n IsOfRow c.args.columns loose
    (relaxed.slacks.items ++ relaxed.bounds.items) row.right
    relaxed.right c.in_ok-relaxed.ensures.narrow c.in_ok-relaxed.ensures.relaxed fits))
    c.cut_of_row.ensures.narrow
