-- Maximal faces that are added to a list.
use Rattle.std.proofs.Common.{◌≡◌, ℕ, zero, suc, ◌+◌, ◌<◌, ◌≤◌, List, [], ◌∷◌, ◌++◌, false, append_assoc, refl, sym, ap, subst, ◌∙◌, arith}
use Rattle.gj_loops.specs.IndexSets.{has}
use Rattle.std.specs.List.{range_with_len, flat_map}
use Rattle.std.proofs.lemmas.Bool.{true≢false}
use Rattle.std.proofs.lemmas.List.{append-nil}
use Rattle.gj_shape.specs.FunctionData.{FunctionData}
use Rattle.gj_shape.specs.WalkOrder.{faces_of_square, faces_in}
use Rattle.gj_shape.specs.declared.faces.Face.{Face}
use Rattle.gj_shape.specs.declared.faces.FaceKind.{FaceKind}
use Rattle.gj_shape.specs.declared.faces.FaceKind.TheVariants.{Vertex, Horizontal, Vertical, Diagonal, Lower, Upper}
use Rattle.gj_faces.specs.declared.alone.Alone.{Alone}
use Rattle.gj_faces.specs.Added.{AddsMaximal, faces_of_row}
use Rattle.gj_faces.specs.Alone.{AreAlone}
use Rattle.gj_faces.specs.Listed.{AreMaximalFaces, IsMaximalIn}
use Rattle.gj_faces.specs.Triangles.{is_triangle}
use Rattle.gj_faces.specs.Picked.{ArePicked, none, kept, dropped}
use Rattle.gj_faces.proofs.PickedFaces.{picked_joined, joined_more}

-- one face, if it is maximal, and if it is not
pub adds_one : (f : FunctionData) (face : Face) (old new : List Face) → IsMaximalIn f face →
    new ≡ old ++ face ∷ [] →
    AddsMaximal f (face ∷ []) old new
adds_one f face old new h e = record { added = face ∷ []; picked = kept h none; items = e }

pub adds_none : (f : FunctionData) (face : Face) (old : List Face) → (IsMaximalIn f face → ⊥) →
    AddsMaximal f (face ∷ []) old old
adds_none f face old h =
    record { added = []; picked = dropped h none; items = sym (append-nil old) }

pub adds_nothing : (f : FunctionData) (old : List Face) → AddsMaximal f [] old old
adds_nothing f old = record { added = []; picked = none; items = sym (append-nil old) }

-- one list behind the other
pub adds_joined : (f : FunctionData) (xs ys old middle new : List Face) →
    AddsMaximal f xs old middle →
    AddsMaximal f ys middle new → AddsMaximal f (xs ++ ys) old new
adds_joined f xs ys old middle new h k = record {
  added = h.added ++ k.added;
  picked = picked_joined (IsMaximalIn f) ys k.added h.picked k.picked;
  items = k.items ∙ ap (λ zs. zs ++ k.added) h.items ∙ append_assoc old h.added k.added;
}

-- one square more of a row
pub adds_square : (f : FunctionData) (a b : ℕ) (old middle new : List Face) →
    AddsMaximal f (flat_map (faces_of_square a) (range_with_len 0 b)) old middle →
    AddsMaximal f (faces_of_square a b) middle new →
    AddsMaximal f (flat_map (faces_of_square a) (range_with_len 0 (b + 1))) old new
adds_square f a b old middle new h k =
    subst (λ xs. AddsMaximal f xs old new) (sym (joined_more (faces_of_square a) b))
    (adds_joined f (flat_map (faces_of_square a) (range_with_len 0 b))
    (faces_of_square a b) old middle new h k)

-- a square of which no face but triangles is maximal
pub adds_no_edge : (f : FunctionData) (a b : ℕ) (alone : Alone) (old : List Face) →
    AreAlone f a alone → b < f.order →
    has alone.edges b ≡ false →
    AddsMaximal f (faces_in (Vertex ∷ Horizontal ∷ Vertical ∷ Diagonal ∷ []) a b) old old
adds_no_edge f a b alone old h below silent = record {
  added = [];
  picked = dropped (not_one Vertex refl)
      (dropped (not_one Horizontal refl)
      (dropped (not_one Vertical refl) (dropped (not_one Diagonal refl) none)));
  items = sym (append-nil old);
}
  where
    not_one : (kind : FaceKind) → is_triangle kind ≡ false →
        IsMaximalIn f (record { kind = kind; a = a; b = b }) → ⊥
    not_one kind plain maximal =
        let some = h.edges kind b below plain ((h.each kind b below).1 maximal) in
        true≢false (sym some ∙ silent)

-- a square of which a face is maximal that is no triangle
pub adds_edge : (f : FunctionData) (kind : FaceKind) (a b : ℕ) (alone : Alone)
    (old new : List Face) → AreAlone f a alone →
    is_triangle kind ≡ false → IsMaximalIn f (record { kind = kind; a = a; b = b }) →
    new ≡ old ++ record { kind = kind; a = a; b = b } ∷ [] →
    AddsMaximal f (faces_of_square a b) old new
adds_edge f kind a b alone old new h plain maximal e = record {
  added = record { kind = kind; a = a; b = b } ∷ [];
  picked = picked kind plain maximal;
  items = e;
}
  where
    picked : (k : FaceKind) → is_triangle k ≡ false →
        IsMaximalIn f (record { kind = k; a = a; b = b }) →
        ArePicked (IsMaximalIn f) (faces_of_square a b) (record { kind = k; a = a; b = b } ∷ [])
    picked Vertex p m =
        kept m (dropped (λ o. cc (h.apart Vertex Horizontal b p m o))
        (dropped (λ o. cc (h.apart Vertex Vertical b p m o))
        (dropped (λ o. cc (h.apart Vertex Diagonal b p m o))
        (dropped (λ o. cc (h.apart Vertex Lower b p m o))
        (dropped (λ o. cc (h.apart Vertex Upper b p m o)) none)))))
    picked Horizontal p m =
        dropped (λ o. cc (h.apart Horizontal Vertex b p m o))
        (kept m (dropped (λ o. cc (h.apart Horizontal Vertical b p m o))
        (dropped (λ o. cc (h.apart Horizontal Diagonal b p m o))
        (dropped (λ o. cc (h.apart Horizontal Lower b p m o))
        (dropped (λ o. cc (h.apart Horizontal Upper b p m o)) none)))))
    picked Vertical p m =
        dropped (λ o. cc (h.apart Vertical Vertex b p m o))
        (dropped (λ o. cc (h.apart Vertical Horizontal b p m o))
        (kept m (dropped (λ o. cc (h.apart Vertical Diagonal b p m o))
        (dropped (λ o. cc (h.apart Vertical Lower b p m o))
        (dropped (λ o. cc (h.apart Vertical Upper b p m o)) none)))))
    picked Diagonal p m =
        dropped (λ o. cc (h.apart Diagonal Vertex b p m o))
        (dropped (λ o. cc (h.apart Diagonal Horizontal b p m o))
        (dropped (λ o. cc (h.apart Diagonal Vertical b p m o))
        (kept m (dropped (λ o. cc (h.apart Diagonal Lower b p m o))
        (dropped (λ o. cc (h.apart Diagonal Upper b p m o)) none)))))
    picked Lower p m = absurd (true≢false p)
    picked Upper p m = absurd (true≢false p)

-- squares of which no face is maximal
adds_no_square : (f : FunctionData) (a b : ℕ) (alone : Alone) (old : List Face) →
    AreAlone f a alone → b < f.order →
    has alone.any b ≡ false → AddsMaximal f (faces_of_square a b) old old
adds_no_square f a b alone old h below silent = record {
  added = [];
  picked = dropped (not_one Vertex)
      (dropped (not_one Horizontal) (dropped (not_one Vertical) (dropped (not_one Diagonal)
      (dropped (not_one Lower) (dropped (not_one Upper) none)))));
  items = sym (append-nil old);
}
  where
    not_one : (kind : FaceKind) → IsMaximalIn f (record { kind = kind; a = a; b = b }) → ⊥
    not_one kind maximal =
        let some = h.any kind b below ((h.each kind b below).1 maximal) in
        true≢false (sym some ∙ silent)

pub adds_no_squares : (f : FunctionData) (a b n : ℕ) (alone : Alone) (old new : List Face) →
    AreAlone f a alone →
    b + n ≤ f.order → ((k : ℕ) → b ≤ k → k < b + n → has alone.any k ≡ false) →
    AddsMaximal f (flat_map (faces_of_square a) (range_with_len 0 b)) old new →
    AddsMaximal f (flat_map (faces_of_square a) (range_with_len 0 (b + n))) old new
adds_no_squares f a b zero alone old new h within silent before =
    let e : b ≡ b + zero = omega arith in
    subst (λ k. AddsMaximal f (flat_map (faces_of_square a) (range_with_len 0 k)) old new) e before
adds_no_squares f a b (suc n) alone old new h within silent before =
    let e : b + n + 1 ≡ b + suc n = omega arith in
    subst (λ k. AddsMaximal f (flat_map (faces_of_square a) (range_with_len 0 k)) old new) e
    (adds_square f a (b + n) old new new
    (adds_no_squares f a b n alone old new h (omega arith)
    (λ k from below. silent k from (omega arith)) before)
    (adds_no_square f a (b + n) alone new h (omega arith)
    (silent (b + n) (omega arith) (omega arith))))

-- one row more
pub picked_row : (f : FunctionData) (q a : ℕ) (old new : List Face) →
    ArePicked (IsMaximalIn f) (flat_map (faces_of_row q) (range_with_len 0 a)) old →
    AddsMaximal f (faces_of_row q a) old new →
    ArePicked (IsMaximalIn f) (flat_map (faces_of_row q) (range_with_len 0 (a + 1))) new
picked_row f q a old new h k =
    subst (λ xs. ArePicked (IsMaximalIn f) xs new) (sym (joined_more (faces_of_row q) a))
    (subst (ArePicked (IsMaximalIn f)
    (flat_map (faces_of_row q) (range_with_len 0 a) ++ faces_of_row q a)) (sym k.items)
    (picked_joined (IsMaximalIn f) (faces_of_row q a) k.added h k.picked))

-- all rows
pub all_rows_picked : (f : FunctionData) (n : ℕ) (faces : List Face) → n ≡ f.order →
    ArePicked (IsMaximalIn f) (flat_map (faces_of_row f.order) (range_with_len 0 n)) faces →
    AreMaximalFaces f faces
all_rows_picked f n faces e h =
    subst (λ k. ArePicked (IsMaximalIn f) (flat_map (faces_of_row f.order) (range_with_len 0 k))
    faces) e h
