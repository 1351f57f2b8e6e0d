use Rattle.gj_limit_cover.proofs.LinkedRows.{row_more}
use Rattle.gj_limit_cover.proofs.table.linked_rows.Goals as goal

pub loop-a-preserved : goal.loop-a-preserved
loop-a-preserved c =
    rw c.in_ok-push.ensures.items (row_more c.args.shape.now c.loop-a.rows.items c.loop-a.a
    c.linked_row.result c.loop-a.invariant c.linked_row.ensures)
