use Rattle.std.proofs.Common.{◌≡◌, ℕ, ◌<◌, get_or}
use Rattle.gj_shape.specs.declared.faces.FaceKind.TheVariants.{Vertex}
use Rattle.gj_function_lines.specs.FaceLines.{face_word}
use Rattle.gj_proof.proofs.cover_lines.face_kind.Given as goal

-- the word is of none of the kinds before this one
abbrev pub invariant-loop-kind : goal.invariant-loop-kind
invariant-loop-kind l = (k : ℕ) → k < l.kind-index →
    l.word ≡ face_word (get_or l.kind-items k Vertex) → ⊥
