use Rattle.std.proofs.Common.{◌≡◌, ◌++◌, All, flat_map, length}
use Rattle.gj_function_lines.specs.FunctionLines.{line}
use Rattle.gj_function_lines.specs.FaceLines.{face_text}
use Rattle.gj_verdict_text.specs.FacePieces.{HasPieces}
use Rattle.gj_verdict_text.proofs.face_lines.push_face_lines.Given as goal

abbrev pub invariant-loop-left : goal.invariant-loop-left
invariant-loop-left l = record {
  written : l.out.items ++ flat_map (λ face. line (face_text face)) l.left
      ≡ l.fn.out.items ++ flat_map (λ face. line (face_text face)) l.faces;
  pieces : All (HasPieces l.starts l.ends) l.left;
}

abbrev pub decreases-loop-left : goal.decreases-loop-left
decreases-loop-left l = length l.left
