use Rattle.gj_loops.specs.IndexSets.{has}
use Rattle.gj_jumps.specs.LimitCover.{IsTightAt}
use Rattle.gj_limit_cover.proofs.LinkedRows.{AreLinking}
use Rattle.gj_limit_cover.proofs.table.Table.linking_below.Given as goal

abbrev pub invariant-loop-j : goal.invariant-loop-j
invariant-loop-j l = AreLinking l.shape.order (IsTightAt l.shape) l.i l.j (has l.set)
