-- The first face in walk order that has a property.
use Rattle.std.proofs.Common.{◌≡◌, ℕ, ◌<◌, List, [], ◌∷◌, ◌++◌, refl, inl, inr, get_or, arith}
use Rattle.std.specs.List.{All, range_with_len, flat_map}
use Rattle.std.proofs.lemmas.List.Elements.{All-map, All-nil, All-push}
use Rattle.gj_lemmas.specs.FirstThatFails.{IsFirstFailing}
use Rattle.gj_lemmas.proofs.FirstThatFails.{first_failing, first_failing_in_range, first_failing_in_joined}
use Rattle.gj_lemmas.proofs.Lists.{All-joined, joined_has}
use Rattle.gj_shape.specs.Cover.{IsFirstFace}
use Rattle.gj_shape.specs.WalkOrder.{faces_in, faces_of_square, position_of_kind}
use Rattle.gj_shape.specs.declared.faces.Face.{Face}
use Rattle.gj_shape.specs.declared.faces.FaceKind.{FaceKind}
use Rattle.gj_shape.specs.declared.faces.FaceKind.TheVariants.{Vertex, Horizontal, Vertical, Diagonal, Lower, Upper}
use Rattle.gj_complex.specs.Walk.{kinds_after}
use Rattle.gj_cover.specs.FirstFound.{IsNotBefore}

abbrev face_at : FaceKind → ℕ → ℕ → Face
face_at kind a b = record { kind = kind; a = a; b = b }

-- the kinds before a kind
abbrev before : FaceKind → List FaceKind
before Vertex = []
before Horizontal = Vertex ∷ []
before Vertical = Vertex ∷ Horizontal ∷ []
before Diagonal = Vertex ∷ Horizontal ∷ Vertical ∷ []
before Lower = Vertex ∷ Horizontal ∷ Vertical ∷ Diagonal ∷ []
before Upper = Vertex ∷ Horizontal ∷ Vertical ∷ Diagonal ∷ Lower ∷ []

square_split : (kind : FaceKind) (a b : ℕ) →
    faces_of_square a b ≡ faces_in (before kind) a b ++ face_at kind a b ∷ faces_in
    (kinds_after kind) a b
square_split Vertex a b = refl
square_split Horizontal a b = refl
square_split Vertical a b = refl
square_split Diagonal a b = refl
square_split Lower a b = refl
square_split Upper a b = refl

first_one : (Q : FaceKind → Type 0) → Q Vertex → All Q (before Horizontal)
first_one Q h = All-push Q [] Vertex (All-nil Q) h

first_two : (Q : FaceKind → Type 0) → Q Vertex → Q Horizontal → All Q (before Vertical)
first_two Q h k = All-push Q (before Horizontal) Horizontal (first_one Q h) k

-- what holds of each kind of lower rank holds of the kinds before
ranks_before : (Q : FaceKind → Type 0) (kind : FaceKind) →
    ((other : FaceKind) → position_of_kind other < position_of_kind kind → Q other) →
    All Q (before kind)
ranks_before Q Vertex h = All-nil Q
ranks_before Q Horizontal h = first_one Q (h Vertex (omega arith))
ranks_before Q Vertical h = first_two Q (h Vertex (omega arith)) (h Horizontal (omega arith))
ranks_before Q Diagonal h =
    All-push Q (before Vertical) Vertical
    (first_two Q (h Vertex (omega arith)) (h Horizontal (omega arith)))
    (h Vertical (omega arith))
ranks_before Q Lower h =
    All-push Q (before Diagonal) Diagonal
    (All-push Q (before Vertical) Vertical
    (first_two Q (h Vertex (omega arith)) (h Horizontal (omega arith)))
    (h Vertical (omega arith)))
    (h Diagonal (omega arith))
ranks_before Q Upper h =
    All-push Q (before Lower) Lower
    (All-push Q (before Diagonal) Diagonal
    (All-push Q (before Vertical) Vertical
    (first_two Q (h Vertex (omega arith)) (h Horizontal (omega arith)))
    (h Vertical (omega arith)))
    (h Diagonal (omega arith)))
    (h Lower (omega arith))

-- in one square
in_square : (Q : Face → Type 0) (kind : FaceKind) (a b : ℕ) →
    ((other : FaceKind) → position_of_kind other < position_of_kind kind → Q (face_at other a b)) →
    (Q (face_at kind a b) → ⊥) →
    IsFirstFailing (All Q) (faces_of_square a b) (faces_in (before kind) a b) (face_at kind a b)
in_square Q kind a b passed fails =
    first_failing Q (faces_of_square a b) (faces_in (before kind) a b)
    (faces_in (kinds_after kind) a b) (face_at kind a b)
    (square_split kind a b)
    (All-map Q (λ k. face_at k a b) (before kind)
    (ranks_before (λ k. Q (face_at k a b)) kind passed)) fails

all_kinds : (Q : FaceKind → Type 0) (kinds : List FaceKind) → ((kind : FaceKind) → Q kind) →
    All Q kinds
all_kinds Q kinds h k d within = h (get_or kinds k d)

-- what holds of each face of a square
whole_square : (Q : Face → Type 0) (a b : ℕ) → ((kind : FaceKind) → Q (face_at kind a b)) →
    All Q (faces_of_square a b)
whole_square Q a b h =
    All-map Q (λ k. face_at k a b) (Vertex ∷ Horizontal ∷ Vertical ∷ Diagonal ∷ Lower ∷ Upper ∷ [])
    (all_kinds (λ k. Q (face_at k a b))
    (Vertex ∷ Horizontal ∷ Vertical ∷ Diagonal ∷ Lower ∷ Upper ∷ []) h)

of_square : (Q : Face → Type 0) (kind : FaceKind) (a b : ℕ) → All Q (faces_of_square a b) →
    Q (face_at kind a b)
of_square Q Vertex a b h = h 0 (face_at Vertex a b) (omega arith)
of_square Q Horizontal a b h = h 1 (face_at Vertex a b) (omega arith)
of_square Q Vertical a b h = h 2 (face_at Vertex a b) (omega arith)
of_square Q Diagonal a b h = h 3 (face_at Vertex a b) (omega arith)
of_square Q Lower a b h = h 4 (face_at Vertex a b) (omega arith)
of_square Q Upper a b h = h 5 (face_at Vertex a b) (omega arith)

-- a face that is not before another is not in an earlier row or square, and not of a lower rank in
-- its own
abbrev Bars : ℕ → (FaceKind → ℕ → ℕ → Type 0) → Face → Type 0
Bars q P face = (kind : FaceKind) (a b : ℕ) → a < q → b < q → P kind a b → IsNotBefore face kind a b

no_earlier_row : (face : Face) (kind : FaceKind) (a b : ℕ) → a < face.a →
    IsNotBefore face kind a b → ⊥
no_earlier_row face kind a b e (inl h) = omega arith
no_earlier_row face kind a b e (inr (h, k)) = omega arith

no_earlier_square : (face : Face) (kind : FaceKind) (b : ℕ) → b < face.b →
    IsNotBefore face kind face.a b → ⊥
no_earlier_square face kind b e (inl h) = omega arith
no_earlier_square face kind b e (inr (h, inl k)) = omega arith
no_earlier_square face kind b e (inr (h, inr k)) = omega arith

no_lower_rank : (face : Face) (kind : FaceKind) →
    position_of_kind kind < position_of_kind face.kind →
    IsNotBefore face kind face.a face.b → ⊥
no_lower_rank face kind e (inl h) = omega arith
no_lower_rank face kind e (inr (h, inl k)) = omega arith
no_lower_rank face kind e (inr (h, inr k)) = let last = k.1 in omega arith

-- the face has the property, and no face before it in walk order has it
pub first_face : (q : ℕ) (P : FaceKind → ℕ → ℕ → Type 0) (face : Face) → face.a < q → face.b < q →
    P face.kind face.a face.b → Bars q P face → IsFirstFace q P face
first_face q P face a_below b_below holds bars =
    let Q : Face → Type 0 = λ g. P g.kind g.a g.b → ⊥ in
    let row : ℕ → List Face = λ a. flat_map (faces_of_square a) (range_with_len 0 q) in
    let square = in_square Q face.kind face.a face.b
    (λ other lower h. no_lower_rank face other lower (bars other face.a face.b a_below b_below h))
    (λ not. not holds) in
    let squares = first_failing_in_range (λ b. All Q (faces_of_square face.a b)) face.b q b_below
    (λ b below. whole_square Q face.a b
    (λ kind h. no_earlier_square face kind b below (bars kind face.a b a_below (omega arith) h)))
    (λ all. of_square Q face.kind face.a face.b all holds) in
    let in_row = first_failing_in_joined Q (faces_of_square face.a) (range_with_len 0 q)
    (range_with_len 0 face.b) face.b
    (faces_in (before face.kind) face.a face.b) face squares square in
    let rows = first_failing_in_range (λ a. All Q (row a)) face.a q a_below
    (λ a below. All-joined Q (faces_of_square a) 0 q
    (λ b b_within. whole_square Q a b
    (λ kind h. no_earlier_row face kind a b below (bars kind a b (omega arith) (omega arith) h))))
    (λ all. of_square Q face.kind face.a face.b
    (joined_has Q (faces_of_square face.a) face.b q b_below all) holds) in
    let first = first_failing_in_joined Q row (range_with_len 0 q) (range_with_len 0 face.a) face.a
    (flat_map (faces_of_square face.a) (range_with_len 0 face.b) ++ faces_in
    (before face.kind) face.a face.b) face
    rows in_row in
    record { before = _; first = first; holds = holds }
