use Rattle.std.proofs.Common.{◌≡◌, ◌++◌, List, take, drop}
use Rattle.std.specs.List.{AllZip}
use Rattle.gj_problem.specs.declared.pieces.Piece.{Piece}
use Rattle.gj_relaxed.specs.RelaxedRows.{IsRaised}
use Rattle.gj_relaxed.proofs.rows.raise_entries.Given as goal

abbrev pub invariant-loop-piece : goal.invariant-loop-piece
invariant-loop-piece l = (made : List Piece)
    × (l.pieces ≡ made ++ drop l.piece-index l.initial.pieces)
    × AllZip (IsRaised l.grid) (take l.piece-index l.initial.pieces) made
