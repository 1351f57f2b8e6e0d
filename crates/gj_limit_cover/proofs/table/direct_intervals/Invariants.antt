use Rattle.gj_loops.specs.IndexSets.{has}
use Rattle.gj_jumps.specs.LimitCover.{IsTightAt}
use Rattle.gj_limit_cover.proofs.RowCovers.{AreDirectBefore}
use Rattle.gj_limit_cover.proofs.table.direct_intervals.Given as goal

abbrev pub invariant-loop-a : goal.invariant-loop-a
invariant-loop-a l = AreDirectBefore l.shape.order (IsTightAt l.shape) l.a (has l.direct)
