use Rattle.std.proofs.Common.{◌≡◌, length}
use Rattle.gj_verdict_text.specs.FacePieces.{AreEnds}
use Rattle.gj_verdict_text.proofs.face_lines.ends_below.Given as goal

abbrev pub invariant-loop-column : goal.invariant-loop-column
invariant-loop-column l = (length l.ends.items ≡ l.column) × AreEnds l.ends.items
