use Rattle.std.proofs.Common.{◌≡◌, ◌≢◌, ℕ, zero, suc, ◌<◌, List, [], ◌∷◌, get_or, lit<, below_more, refl, sym, ◌∙◌, arith, rules}
use Rattle.gj_shape.specs.declared.faces.FaceKind.{FaceKind}
use Rattle.gj_shape.specs.declared.faces.FaceKind.TheVariants.{Vertex, Horizontal, Vertical, Diagonal, Lower, Upper}
use Rattle.gj_limit_proof.specs.Sides.{sides_word}
use Rattle.gj_limit_proof.proofs.sides.sides_of_word.Goals as goal

abbrev corner_at : ℕ → FaceKind × ℕ
corner_at i =
    get_or ((Horizontal, 0) ∷ (Horizontal, 1) ∷ (Vertical, 0) ∷ (Vertical, 1) ∷ (Diagonal, 0)
    ∷ (Diagonal, 1)
    ∷ (Lower, 0) ∷ (Lower, 1) ∷ (Lower, 2) ∷ (Upper, 0) ∷ (Upper, 1) ∷ (Upper, 2) ∷ []) i
    (Vertex, 0)

-- each word of an edge or a triangle is that of one of these corners
every_word : (P : List ℕ → Type 0) →
    ((i : ℕ) → i < 12 → P (sides_word (corner_at i).0 (corner_at i).1)) →
    (kind : FaceKind) (corner : ℕ) → kind ≢ Vertex → P (sides_word kind corner)
every_word P h Vertex corner other = absurd (other refl)
every_word P h Horizontal zero other = h 0 (lit< tt)
every_word P h Horizontal (suc corner) other = h 1 (lit< tt)
every_word P h Vertical zero other = h 2 (lit< tt)
every_word P h Vertical (suc corner) other = h 3 (lit< tt)
every_word P h Diagonal zero other = h 4 (lit< tt)
every_word P h Diagonal (suc corner) other = h 5 (lit< tt)
every_word P h Lower zero other = h 6 (lit< tt)
every_word P h Lower (suc zero) other = h 7 (lit< tt)
every_word P h Lower (suc (suc corner)) other = h 8 (lit< tt)
every_word P h Upper zero other = h 9 (lit< tt)
every_word P h Upper (suc zero) other = h 10 (lit< tt)
every_word P h Upper (suc (suc corner)) other = h 11 (lit< tt)

pub returns-clause-none : goal.returns-clause-none
returns-clause-none c = λ kind corner other is.
    every_word (λ w. c.args.word.now ≡ w → ⊥) (λ i below. c.loop-kind.invariant i (omega arith))
    kind corner other is

pub loop-kind-preserved : goal.loop-kind-preserved
loop-kind-preserved c =
    below_more (λ i. c.args.word.now ≡ sides_word (corner_at i).0 (corner_at i).1 →
    ⊥) c.loop-kind.kind-index c.loop-kind.invariant
    (λ is. let same : c.args.word.now ≡ c.sides_word.result.now = is ∙ sym c.sides_word.ensures in
    search rules)
