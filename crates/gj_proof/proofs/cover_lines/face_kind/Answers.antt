use Rattle.std.proofs.Common.{◌≡◌, ◌≢◌, ℕ, ◌<◌, [], ◌∷◌, get_or, lit<, refl, arith}
use Rattle.gj_shape.specs.declared.faces.FaceKind.{FaceKind}
use Rattle.gj_shape.specs.declared.faces.FaceKind.TheVariants.{Vertex, Horizontal, Vertical, Diagonal, Lower, Upper}
use Rattle.gj_function_lines.specs.FaceLines.{face_word}
use Rattle.gj_proof.proofs.cover_lines.face_kind.Goals as goal

abbrev kind_at : ℕ → FaceKind
kind_at i = get_or (Horizontal ∷ Vertical ∷ Diagonal ∷ Lower ∷ Upper ∷ []) i Vertex

every_kind : (P : FaceKind → Type 0) → ((i : ℕ) → i < 5 → P (kind_at i)) → (kind : FaceKind) →
    kind ≢ Vertex → P kind
every_kind P h Vertex other = absurd (other refl)
every_kind P h Horizontal other = h 0 (lit< tt)
every_kind P h Vertical other = h 1 (lit< tt)
every_kind P h Diagonal other = h 2 (lit< tt)
every_kind P h Lower other = h 3 (lit< tt)
every_kind P h Upper other = h 4 (lit< tt)

pub returns-clause-none : goal.returns-clause-none
returns-clause-none c =
    λ kind is other. every_kind (λ k. c.args.word.now ≡ face_word k → ⊥)
    (λ i below. c.loop-kind.invariant i (omega arith)) kind other is
