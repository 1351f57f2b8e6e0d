use Rattle.std.proofs.Common.{◌++◌}
use Rattle.gj_frac.proofs.Refusals.{on_ok_along}
use Rattle.gj_problem.specs.declared.row.Row.{Row}
use Rattle.gj_relaxed.specs.RelaxedRows.{IsRelaxedRow}
use Rattle.gj_relaxed.specs.Gaps.{IsRowWithGap}
use Rattle.gj_relaxed.proofs.GapSums.{gap_in_row}
use Rattle.gj_relaxed.proofs.rows.relaxed_row.Goals as goal

pub returns-in-Ok-clause-relaxed : goal.returns-in-Ok-clause-relaxed
returns-in-Ok-clause-relaxed c =
    let row = c.args.row in
    on_ok_along c.with_gap.result (IsRowWithGap c.args.grid row c.in-Ok.gap)
    (λ (made : Row). IsRelaxedRow c.args.to c.args.grid c.args.columns
    (row.slacks.items ++ row.bounds.items) row.right
    (made.slacks.items ++ made.bounds.items) made.right)
    (λ made k. gap_in_row c.args.to c.args.grid c.args.columns row made c.in-Ok.gap
    c.in-Ok.ensures.gap k) c.with_gap.ensures.made
