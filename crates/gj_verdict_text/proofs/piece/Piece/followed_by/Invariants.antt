use Rattle.std.proofs.Common.{◌≡◌, ◌+◌, ◌++◌, length, take}
use Rattle.gj_verdict_text.specs.FacePieces.{text_of}
use Rattle.gj_verdict_text.proofs.piece.Piece.followed_by.Given as goal

abbrev pub invariant-loop-byte : goal.invariant-loop-byte
invariant-loop-byte l = record {
  is_longer : l.length ≡ l.fn.self.length + l.byte-index;
  room : length l.bytes ≡ 16;
  text : take l.length l.bytes ≡ text_of l.fn.self ++ take l.byte-index l.text;
}
