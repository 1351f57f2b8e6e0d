use Rattle.std.proofs.Common.{◌≡◌, ◌*◌, ◌≤◌, flat_map, length, take}
use Rattle.gj_function_lines.specs.FunctionLines.{line}
use Rattle.gj_function_lines.specs.FaceLines.{face_text}
use Rattle.gj_verdict_text.proofs.face_lines.write_face_lines.Given as goal

abbrev pub invariant-loop-face : goal.invariant-loop-face
invariant-loop-face l = record {
  written : take l.end l.text ≡ flat_map (λ face. line (face_text face))
      (take l.face-index l.faces);
  within : l.end ≤ 32 * l.face-index;
  whole : length l.text ≡ length l.initial.text;
}
