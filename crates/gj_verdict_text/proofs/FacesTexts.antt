-- The text of the faces, the cover lines and the uncovered intervals of a function, printed piece
-- by piece.
use Rattle.std.proofs.Common.{◌≡◌, ℕ, ◌+◌, ◌<◌, ◌↔◌, List, [], ◌∷◌, ◌++◌, All, codes, flat_map, Option, None, Some, is_some, true, false, refl, sym, ap, subst, ◌∙◌, append_assoc, length, arith}
use Rattle.std.specs.List.{range_with_len}
use Rattle.std.proofs.lemmas.List.{append-nil, flat_map_more}
use Rattle.std.proofs.lemmas.List.Concat.{flat_map-append}
use Rattle.std.proofs.lemmas.List.Elements.{All-nil, All-cons, All-head, All-tail, All-map}
use Rattle.std.proofs.Math.Nat.{zero-add}
use Rattle.gj_lemmas.proofs.Lists.{All-range, All-joined}
use Rattle.gj_shape.specs.FunctionData.{FunctionData}
use Rattle.gj_shape.specs.Additive.{IsTight}
use Rattle.gj_shape.specs.Cover.{IsCovered}
use Rattle.gj_shape.specs.WalkOrder.{faces_of_square}
use Rattle.gj_shape.specs.declared.faces.Face.{Face}
use Rattle.gj_shape.specs.declared.faces.FaceKind.TheVariants.{Vertex, Horizontal, Vertical, Diagonal, Lower, Upper}
use Rattle.gj_function_lines.specs.FunctionLines.{line, order_line}
use Rattle.gj_function_lines.specs.FaceLines.{face_text, cover_line}
use Rattle.gj_faces.specs.Added.{AddsMaximal, faces_of_row}
use Rattle.gj_faces.specs.Listed.{IsMaximalIn}
use Rattle.gj_faces.proofs.AddedFaces.{picked_row, all_rows_picked}
use Rattle.gj_faces.specs.Picked.{ArePicked, none, kept, dropped}
use Rattle.gj_faces.proofs.PickedFaces.{picked_joined}
use Rattle.gj_cover.specs.CoverOf.{IsCoverOf, number_at}
use Rattle.gj_cover.specs.declared.covered.Cover.{Cover}
use Rattle.gj_cover.proofs.TruePlaces.{range_next}
use Rattle.gj_verdict_text.specs.FacePieces.{HasPieces}
use Rattle.gj_verdict_text.specs.declared.piece.Piece.{Piece}
use Rattle.gj_verdict_text.specs.declared.face_lines.Starts.{Starts}
use Rattle.gj_verdict_text.specs.FacesText.{ArePushed, AreRowsPushed, IsFacesText, uncovered_line}

-- ---- the maximal faces

pub no_rows_pushed : (f : FunctionData) (text : List ℕ) → AreRowsPushed f 0 text text
no_rows_pushed f text = record { faces = []; picked = none; pushed = sym (append-nil text) }

-- the lines of one row more, of which the faces were added to no others
pub one_row_pushed : (f : FunctionData) (a : ℕ) (old middle new : List ℕ) (empty row : List Face) →
    AreRowsPushed f a old middle →
    empty ≡ [] → AddsMaximal f (faces_of_row f.order a) empty row →
    new ≡ middle ++ flat_map (λ face. line (face_text face)) row → AreRowsPushed f (a + 1) old new
one_row_pushed f a old middle new empty row h is k e =
    let lines : List Face → List ℕ = flat_map (λ face. line (face_text face)) in
    let whole : row ≡ k.added = k.items ∙ ap (λ xs. xs ++ k.added) is in
    record {
      faces = h.faces ++ k.added;
      picked = picked_row f f.order a h.faces (h.faces ++ k.added) h.picked
          (record { added = k.added; picked = k.picked; items = refl });
      pushed = e ∙ ap (λ xs. xs ++ lines row) h.pushed
          ∙ ap (λ xs. (old ++ lines h.faces) ++ lines xs) whole
          ∙ append_assoc old (lines h.faces) (lines k.added)
          ∙ ap (λ xs. old ++ xs)
          (sym (flat_map-append (λ face. line (face_text face)) h.faces k.added));
    }

-- what holds of each element holds of each that is picked
picked_keeps : {X : Type 0} (A P : X → Type 0) {xs ys : List X} → All A xs → ArePicked P xs ys →
    All A ys
picked_keeps A P all none = All-nil A
picked_keeps A P all (kept {x} {xs} {ys} h more) =
    All-cons A x ys (All-head A x xs all) (picked_keeps A P (All-tail A x xs all) more)
picked_keeps A P all (dropped {x} {xs} h more) = picked_keeps A P (All-tail A x xs all) more

-- there are pieces for each face of a row
pub row_has_pieces : (f : FunctionData) (a : ℕ) (starts : Starts) (ends : List Piece)
    (empty row : List Face) → empty ≡ [] →
    AddsMaximal f (faces_of_row f.order a) empty row → starts.row ≡ a → length ends ≡ f.order →
    All (HasPieces starts ends) row
row_has_pieces f a starts ends empty row is h at count =
    let whole : row ≡ h.added = h.items ∙ ap (λ xs. xs ++ h.added) is in
    let each : All (HasPieces starts ends) (faces_of_row f.order a) =
    All-joined (HasPieces starts ends) (faces_of_square a) 0 f.order
    (λ b below. All-map (HasPieces starts ends) (λ kind. record { kind = kind; a = a; b = b })
    (Vertex ∷ Horizontal ∷ Vertical ∷ Diagonal ∷ Lower ∷ Upper ∷ [])
    (λ k kind within. (sym at, let low : b < length ends = omega (arith, below, count) in low))) in
    subst (All (HasPieces starts ends)) (sym whole)
    (picked_keeps (HasPieces starts ends) (IsMaximalIn f) each h.picked)

-- ---- the uncovered intervals

pub none_pushed : (component : List (Option ℕ)) (text : List ℕ) → ArePushed component 0 text text
none_pushed component text =
    record { intervals = []; picked = none; pushed = sym (append-nil text) }

-- the line of an interval without a component
pub one_pushed : (component : List (Option ℕ)) (n : ℕ) (old mid new : List ℕ) →
    ArePushed component n old mid →
    number_at component n ≡ None → new ≡ mid ++ uncovered_line n →
    ArePushed component (n + 1) old new
one_pushed component n old mid new p open_interval is =
    let P : ℕ → Type 0 = λ i. number_at component i ≡ None in
    record {
      intervals = p.intervals ++ n ∷ [];
      picked = subst (λ xs. ArePicked P xs (p.intervals ++ n ∷ [])) (sym (range_next n))
          (picked_joined P (n ∷ []) (n ∷ []) p.picked (kept open_interval none));
      pushed = is ∙ ap (λ xs. xs ++ uncovered_line n) p.pushed
          ∙ flat_map_more uncovered_line old p.intervals n;
    }

-- no line for another
pub none_more : (component : List (Option ℕ)) (n : ℕ) (old new : List ℕ) →
    ArePushed component n old new →
    (number_at component n ≡ None → ⊥) → ArePushed component (n + 1) old new
none_more component n old new p closed =
    let P : ℕ → Type 0 = λ i. number_at component i ≡ None in
    record {
      intervals = p.intervals;
      picked = subst (λ xs. ArePicked P xs p.intervals) (sym (range_next n))
          (subst (λ ys. ArePicked P (range_with_len 0 n ++ n ∷ []) ys) (append-nil p.intervals)
          (picked_joined P (n ∷ []) [] p.picked (dropped closed none)));
      pushed = p.pushed;
    }

-- an interval has a number, or none
pub without_number : (o : Option ℕ) → is_some o ≡ false → o ≡ None
without_number None h = refl
without_number (Some n) h = absurd (by_cases h)
  where
    by_cases : true ≡ false → ⊥
    by_cases e = cc

pub with_number : (o : Option ℕ) → is_some o ≡ true → o ≡ None → ⊥
with_number None h e = by_cases h
  where
    by_cases : false ≡ true → ⊥
    by_cases e = cc
with_number (Some n) h e = cc

-- ---- the whole text

-- what was pushed piece by piece stands there in turn
pub in_turn : (a b c d e f first second third fourth whole : List ℕ) → first ≡ a ++ b →
    second ≡ first ++ c → third ≡ second ++ d →
    fourth ≡ third ++ e → whole ≡ fourth ++ f → whole ≡ a ++ b ++ c ++ d ++ e ++ f
in_turn a b c d e f first second third fourth whole p q r s t =
    t ∙ ap (λ x. x ++ f) (s ∙ ap (λ x. x ++ e) (r ∙ ap (λ x. x ++ d) (q ∙ ap (λ x. x ++ c) p)))

-- two properties that the same elements of a list have pick the same ones
pub picked_alike : {X : Type 0} (P Q : X → Type 0) {xs ys : List X} → All (λ x. P x ↔ Q x) xs →
    ArePicked P xs ys → ArePicked Q xs ys
picked_alike P Q all none = none
picked_alike P Q all (kept {x} {xs} h more) =
    kept ((All-head (λ y. P y ↔ Q y) x xs all).0 h)
    (picked_alike P Q (All-tail (λ y. P y ↔ Q y) x xs all) more)
picked_alike P Q all (dropped {x} {xs} h more) =
    dropped (λ q. h ((All-head (λ y. P y ↔ Q y) x xs all).1 q))
    (picked_alike P Q (All-tail (λ y. P y ↔ Q y) x xs all) more)

-- the text of the faces, the cover and the uncovered intervals
pub text_of_faces : (f : FunctionData) (n k : ℕ) (cover : Cover)
    (title first second third fourth whole : List ℕ) →
    n ≡ f.order → k ≡ f.order → IsCoverOf f.order (IsTight f) cover →
    title ≡ line (codes "gj-faces 1") →
    first ≡ title ++ order_line n → AreRowsPushed f f.order first second →
    third ≡ second ++ flat_map cover_line cover.lines → ArePushed cover.component k third fourth →
    whole ≡ fourth ++ line (codes "end") → IsFacesText f whole
text_of_faces f n k cover title first second third fourth whole n_is k_is covered is p rows r some
    s =
    let pushed : ArePushed cover.component f.order third fourth =
    subst (λ m. ArePushed cover.component m third fourth) k_is some in
    record {
      listed = rows.faces;
      maximal = all_rows_picked f f.order rows.faces refl rows.picked;
      lines = cover.lines;
      cover = covered.lines;
      intervals = pushed.intervals;
      uncovered = picked_alike (λ i. number_at cover.component i ≡ None)
          (λ i. IsCovered f.order (IsTight f) i → ⊥)
          (All-range (λ i. (number_at cover.component i ≡ None)
          ↔ (IsCovered f.order (IsTight f) i → ⊥)) 0 f.order
          (λ i below. covered.component.uncovered i (subst (λ m. i < m) (zero-add f.order) below)))
          pushed.picked;
      spelled = in_turn (line (codes "gj-faces 1")) (order_line f.order)
          (flat_map (λ face. line (face_text face)) rows.faces)
          (flat_map cover_line cover.lines) (flat_map uncovered_line pushed.intervals)
          (line (codes "end")) first second third fourth whole
          (p ∙ ap (λ x. x ++ order_line n) is
          ∙ ap (λ m. line (codes "gj-faces 1") ++ order_line m) n_is) rows.pushed r
          pushed.pushed s;
    }
