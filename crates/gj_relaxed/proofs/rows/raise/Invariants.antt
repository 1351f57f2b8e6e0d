use Rattle.std.proofs.Common.{◌≡◌, ◌++◌, List, take, drop}
use Rattle.gj_problem.specs.declared.pieces.Piece.{Piece}
use Rattle.gj_relaxed.specs.RaisedPieces.{AreRaised, IsWideRaising}
use Rattle.gj_relaxed.proofs.rows.raise.Given as goal

abbrev pub invariant-loop-piece : goal.invariant-loop-piece
invariant-loop-piece l = record {
  raised : (made : List Piece) × (l.pieces ≡ made ++ drop l.piece-index l.initial.pieces)
      × AreRaised l.grid (take l.piece-index l.initial.pieces) made l.initial.sum l.sum;
  narrow : IsWideRaising l.grid (take l.piece-index l.initial.pieces) l.initial.sum → ⊥;
}
