-- The first face in walk order among those of some squares (own).
use Rattle.std.specs.Prelude.{ℕ, ◌≡◌, ◌⊎◌, ◌<◌, ◌≤◌, Option, Some, IfSome, MatchOption}
use Rattle.gj_shape.specs.declared.faces.Face.{Face}
use Rattle.gj_shape.specs.declared.faces.FaceKind.{FaceKind}
use Rattle.gj_shape.specs.WalkOrder.{position_of_kind}

-- the face of this kind of the square (a, b) is not before the other in walk order
abbrev pub IsNotBefore : Face → FaceKind → ℕ → ℕ → Type 0
IsNotBefore face kind a b =
    (face.a < a) ⊎ ((face.a ≡ a)
    × ((face.b < b) ⊎ ((face.b ≡ b) × (position_of_kind face.kind ≤ position_of_kind kind))))

-- the face is one of these squares and has the property, and none of these squares that has it is
-- before it
pub record IsFirstOf (Square : ℕ → ℕ → Type 0) (P : FaceKind → ℕ → ℕ → Type 0) (face : Face) :
    Type 0 where
  pub square : Square face.a face.b
  pub holds : P face.kind face.a face.b
  pub first : (kind : FaceKind) (a b : ℕ) → Square a b → P kind a b → IsNotBefore face kind a b

-- no face of these squares has the property
abbrev pub HasNone : (ℕ → ℕ → Type 0) → (FaceKind → ℕ → ℕ → Type 0) → Type 0
HasNone Square P = (kind : FaceKind) (a b : ℕ) → Square a b → P kind a b → ⊥

-- the first such face, or None if there is none
abbrev pub FindsFirst : (ℕ → ℕ → Type 0) → (FaceKind → ℕ → ℕ → Type 0) → Option Face → Type 0
FindsFirst Square P found = MatchOption found (HasNone Square P) (IsFirstOf Square P)

-- the first square comes before the second in walk order
abbrev pub IsEarlier : Face → Face → Type 0
IsEarlier f g = (f.a < g.a) ⊎ ((f.a ≡ g.a) × (f.b < g.b))

-- the face of this kind of the square (a, b)
abbrev pub IsThis : FaceKind → ℕ → ℕ → FaceKind → ℕ → ℕ → Type 0
IsThis kind a b other c d = (other ≡ kind) × (c ≡ a) × (d ≡ b)

-- a face was found that is not behind the face of this kind of the square (a, b)
abbrev pub IsFaceReached : Option Face → FaceKind → ℕ → ℕ → Type 0
IsFaceReached found kind a b = MatchOption found ⊥ (λ f. IsNotBefore f kind a b)

-- a face was found whose first index is less than each of these
abbrev pub IsInRowBefore : Option Face → ℕ → ℕ → ℕ → Type 0
IsInRowBefore found i j k = MatchOption found ⊥ (λ f. (f.a < i) × (f.a < j) × (f.a < k))

-- the first of a face that may have been found before and of those of these faces that have the
-- property
pub record AddsFirst (These P : FaceKind → ℕ → ℕ → Type 0) (found result : Option Face) :
    Type 0 where
  pub from : IfSome result (λ f. (found ≡ Some f) ⊎ (These f.kind f.a f.b × P f.kind f.a f.b))
  pub behind : (kind : FaceKind) (a b : ℕ) → IsFaceReached found kind a b →
      IsFaceReached result kind a b
  pub first : (kind : FaceKind) (a b : ℕ) → These kind a b → P kind a b →
      IsFaceReached result kind a b
