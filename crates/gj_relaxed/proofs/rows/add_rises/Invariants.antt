use Rattle.std.proofs.Common.{take}
use Rattle.gj_relaxed.specs.Gaps.{AddsRises}
use Rattle.gj_relaxed.proofs.rows.add_rises.Given as goal

abbrev pub invariant-loop-piece : goal.invariant-loop-piece
invariant-loop-piece l = AddsRises l.grid (take l.piece-index l.pieces) l.initial.sum l.sum
