use Rattle.gj_limit_cover.specs.Links.{AreLinkedRows}
use Rattle.gj_limit_cover.proofs.table.linked_rows.Given as goal

abbrev pub invariant-loop-a : goal.invariant-loop-a
invariant-loop-a l = AreLinkedRows l.shape l.a l.rows.items
