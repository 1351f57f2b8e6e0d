use Rattle.std.proofs.Common.{◌≡◌, ℕ, ◌<◌, get_or}
use Rattle.gj_shape.specs.declared.faces.FaceKind.TheVariants.{Vertex}
use Rattle.gj_limit_proof.specs.Sides.{sides_word}
use Rattle.gj_limit_proof.proofs.sides.sides_of_word.Given as goal

-- the word is that of none of the corners before this one
abbrev pub invariant-loop-kind : goal.invariant-loop-kind
invariant-loop-kind l =
    (k : ℕ) → k < l.kind-index →
    l.word ≡ sides_word (get_or l.kind-items k (Vertex, 0)).0
    (get_or l.kind-items k (Vertex, 0)).1 → ⊥
