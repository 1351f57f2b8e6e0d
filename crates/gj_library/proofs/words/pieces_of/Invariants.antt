use Rattle.std.proofs.Common.{◌≡◌, map, take, string_bytes}
use Rattle.gj_library.proofs.words.pieces_of.Given as goal

-- the words so far are the pieces so far
abbrev pub invariant-loop-piece : goal.invariant-loop-piece
invariant-loop-piece l = map string_bytes l.words.items
    ≡ map (λ piece. piece.now) (take l.piece-index l.piece-items)
