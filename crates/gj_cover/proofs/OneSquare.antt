-- The first face of one square.
use Rattle.std.proofs.Common.{ℕ, ◌<◌, refl, sym, subst, inl, inr, arith}
use Rattle.std.proofs.lemmas.Bool.{cases_lt}
use Rattle.gj_shape.specs.declared.faces.FaceKind.{FaceKind}
use Rattle.gj_shape.specs.declared.faces.FaceKind.TheVariants.{Vertex, Horizontal, Vertical, Diagonal, Lower, Upper}
use Rattle.gj_shape.specs.WalkOrder.{position_of_kind}
use Rattle.gj_cover.specs.FirstFound.{HasNone, IsFirstOf}
use Rattle.gj_cover.specs.Table.{CoversBy}
use Rattle.gj_cover.specs.declared.table.Table.{Table}
use Rattle.gj_cover.proofs.FirstFaces.{Square}
use Rattle.gj_cover.proofs.Parts.{covered_one}

-- a kind that has the property, if none before it has it
pub first_there : (P : FaceKind → ℕ → ℕ → Type 0) (k : FaceKind) (a b : ℕ) → P k a b →
    ((kind : FaceKind) → position_of_kind kind < position_of_kind k → P kind a b → ⊥) →
    IsFirstOf (Square a b) P (record { kind = k; a = a; b = b })
first_there P k a b holds none = record {
  square = (refl, refl);
  holds = holds;
  first = λ kind c d (x, y) p. elim (cases_lt (position_of_kind kind) (position_of_kind k)) [
    | inl low ↦ absurd (none kind low (subst (λ n. P kind a n) y (subst (λ n. P kind n d) x p)))
    | inr high ↦ inr (sym x, inr (sym y, high))
  ];
}

-- no kind has the property
pub none_there : (P : FaceKind → ℕ → ℕ → Type 0) (a b : ℕ) → ((kind : FaceKind) → P kind a b → ⊥) →
    HasNone (Square a b) P
none_there P a b none kind c d (x, y) p =
    none kind (subst (λ n. P kind a n) y (subst (λ n. P kind n d) x p))

-- kinds up to a rank that have no property each
pub ranked : (Q : FaceKind → Type 0) (n : ℕ) → (Q Vertex → ⊥) → (1 < n → Q Horizontal → ⊥) →
    (2 < n → Q Vertical → ⊥) →
    (3 < n → Q Diagonal → ⊥) → (4 < n → Q Lower → ⊥) → (5 < n → Q Upper → ⊥) → (kind : FaceKind) →
    position_of_kind kind < n → Q kind → ⊥
ranked Q n p h v d l u Vertex low q = p q
ranked Q n p h v d l u Horizontal low q = h low q
ranked Q n p h v d l u Vertical low q = v low q
ranked Q n p h v d l u Diagonal low q = d low q
ranked Q n p h v d l u Lower low q = l low q
ranked Q n p h v d l u Upper low q = u low q

all_low : (kind : FaceKind) → position_of_kind kind < 6
all_low Vertex = omega arith
all_low Horizontal = omega arith
all_low Vertical = omega arith
all_low Diagonal = omega arith
all_low Lower = omega arith
all_low Upper = omega arith

pub all_ranked : (Q : FaceKind → Type 0) → (Q Vertex → ⊥) → (Q Horizontal → ⊥) → (Q Vertical → ⊥) →
    (Q Diagonal → ⊥) →
    (Q Lower → ⊥) → (Q Upper → ⊥) → (kind : FaceKind) → Q kind → ⊥
all_ranked Q p h v d l u kind q =
    ranked Q 6 p (λ low. h) (λ low. v) (λ low. d) (λ low. l) (λ low. u) kind (all_low kind) q

-- ---- what covers

-- no face but a triangle covers
pub edge_covers_none : (t : Table) (i a b : ℕ) →
    (CoversBy t i Vertex a b → ⊥) × (CoversBy t i Horizontal a b → ⊥)
    × (CoversBy t i Vertical a b → ⊥) × (CoversBy t i Diagonal a b → ⊥)
edge_covers_none t i a b = (
  λ h. (covered_one t.order Vertex a b i h.projection).0,
  λ h. (covered_one t.order Horizontal a b i h.projection).0,
  λ h. (covered_one t.order Vertical a b i h.projection).0,
  λ h. (covered_one t.order Diagonal a b i h.projection).0,
)
