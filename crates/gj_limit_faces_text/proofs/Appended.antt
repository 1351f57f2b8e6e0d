-- Lines of maximal faces, one after another, and the text.
use Rattle.std.proofs.Common.{◌≡◌, ◌↔◌, ℕ, ◌+◌, ◌<◌, List, [], ◌∷◌, ◌++◌, None, codes, flat_map, get_or, length, map, take, refl, sym, ap, subst, append-nil, append_assoc, ◌∙◌}
use Rattle.std.specs.List.{range_with_len}
use Rattle.std.proofs.Math.Nat.{zero-add}
use Rattle.std.proofs.lemmas.Grind.{flat_map-append}
use Rattle.std.proofs.lemmas.List.{map-append, take_more}
use Rattle.gj_lemmas.proofs.Lists.{All-range}
use Rattle.gj_shape.specs.FunctionData.{FunctionData}
use Rattle.gj_shape.specs.WalkOrder.{faces_in, faces_of}
use Rattle.gj_shape.specs.declared.faces.Face.{Face}
use Rattle.gj_shape.specs.declared.faces.FaceKind.{FaceKind}
use Rattle.gj_shape.specs.declared.faces.FaceKind.TheVariants.{Vertex}
use Rattle.gj_faces.specs.Picked.{ArePicked, none, kept, dropped}
use Rattle.gj_faces.proofs.PickedFaces.{picked_joined, joined_more}
use Rattle.gj_cover.specs.CoverOf.{number_at}
use Rattle.gj_cover.specs.declared.covered.Cover.{Cover}
use Rattle.gj_jumps.specs.LimitCover.{IsTightAt}
use Rattle.gj_limit_cover.specs.CoverOf.{IsCoverOf}
use Rattle.gj_limit_cover.specs.LimitCover.{IsCovered}
use Rattle.gj_function_lines.specs.FunctionLines.{line, order_line}
use Rattle.gj_function_lines.specs.FaceLines.{face_text, cover_line}
use Rattle.gj_verdict_text.specs.FacesText.{ArePushed, uncovered_line}
use Rattle.gj_verdict_text.proofs.FacesTexts.{in_turn, picked_alike}
use Rattle.gj_limit_faces_text.specs.AppendedFaces.{AppendsMaximal}
use Rattle.gj_limit_faces_text.specs.LimitFacesText.{IsLimitFacesText, IsMaximalByLimits}

abbrev face_lines : List Face → List ℕ
face_lines = flat_map (λ face. line (face_text face))

pub appends_nothing : (f : FunctionData) (old new : List ℕ) → new ≡ old →
    AppendsMaximal f [] old new
appends_nothing f old new e =
    record { listed = []; picked = none; appended = e ∙ sym (append-nil old) }

pub appends_face : (f : FunctionData) (face : Face) (old new : List ℕ) → IsMaximalByLimits f face →
    new ≡ old ++ line (face_text face) →
    AppendsMaximal f (face ∷ []) old new
appends_face f face old new h e =
    record {
      listed = face ∷ [];
      picked = kept h none;
      appended = e
          ∙ ap (λ xs. old ++ xs) (sym (append-nil (line (face_text face))));
    }

pub appends_none : (f : FunctionData) (face : Face) (old new : List ℕ) →
    (IsMaximalByLimits f face → ⊥) → new ≡ old →
    AppendsMaximal f (face ∷ []) old new
appends_none f face old new h e =
    record { listed = []; picked = dropped h none; appended = e ∙ sym (append-nil old) }

-- one list behind another
pub appends_joined : (f : FunctionData) (xs ys : List Face) (old middle new : List ℕ) →
    AppendsMaximal f xs old middle →
    AppendsMaximal f ys middle new → AppendsMaximal f (xs ++ ys) old new
appends_joined f xs ys old middle new h k = record {
  listed = h.listed ++ k.listed;
  picked = picked_joined (IsMaximalByLimits f) ys k.listed h.picked k.picked;
  appended = k.appended ∙ ap (λ t. t ++ face_lines k.listed) h.appended
      ∙ append_assoc old (face_lines h.listed) (face_lines k.listed)
      ∙ ap (λ t. old ++ t)
      (sym (flat_map-append (λ face. line (face_text face)) h.listed k.listed));
}

-- one more row, or square
pub appends_more : (f : FunctionData) (faces : ℕ → List Face) (n : ℕ) (old middle new : List ℕ) →
    AppendsMaximal f (flat_map faces (range_with_len 0 n)) old middle →
    AppendsMaximal f (faces n) middle new →
    AppendsMaximal f (flat_map faces (range_with_len 0 (n + 1))) old new
appends_more f faces n old middle new h k =
    subst (λ (xs : List Face). AppendsMaximal f xs old new) (sym (joined_more faces n))
    (appends_joined f (flat_map faces (range_with_len 0 n)) (faces n) old middle new h k)

-- one more kind of one square
pub appends_kind : (f : FunctionData) (kinds : List FaceKind) (i : ℕ) (kind : FaceKind) (a b : ℕ)
    (old middle new : List ℕ) → i < length kinds →
    kind ≡ get_or kinds i Vertex → AppendsMaximal f (faces_in (take i kinds) a b) old middle →
    AppendsMaximal f (record { kind = kind; a = a; b = b } ∷ []) middle new →
    AppendsMaximal f (faces_in (take (i + 1) kinds) a b) old new
appends_kind f kinds i kind a b old middle new below is h k =
    let face : FaceKind → Face = λ k. record { kind = k; a = a; b = b } in
    let more : faces_in (take (i + 1) kinds) a b ≡ faces_in (take i kinds) a b ++ face kind ∷ [] =
    ap (map face) (take_more kinds i Vertex below)
    ∙ map-append face (take i kinds) (get_or kinds i Vertex ∷ [])
    ∙ ap (λ x. faces_in (take i kinds) a b ++ face x ∷ []) (sym is) in
    subst (λ (xs : List Face). AppendsMaximal f xs old new) (sym more)
    (appends_joined f (faces_in (take i kinds) a b) (face kind ∷ []) old middle new h k)

-- the text of the faces, the cover and the uncovered intervals
pub text_of_faces : (f : FunctionData) (n k : ℕ) (cover : Cover)
    (title first second third fourth whole : List ℕ) →
    n ≡ f.order → k ≡ f.order → IsCoverOf f.order (IsTightAt f) cover →
    title ≡ line (codes "gj-faces 1") →
    first ≡ title ++ order_line n → AppendsMaximal f (faces_of f.order) first second →
    third ≡ second ++ flat_map cover_line cover.lines → ArePushed cover.component k third fourth →
    whole ≡ fourth ++ line (codes "end") → IsLimitFacesText f whole
text_of_faces f n k cover title first second third fourth whole n_is k_is covered is p rows r some
    s =
    let pushed : ArePushed cover.component f.order third fourth =
    subst (λ m. ArePushed cover.component m third fourth) k_is some in
    record {
      listed = rows.listed;
      maximal = rows.picked;
      lines = cover.lines;
      cover = covered.lines;
      intervals = pushed.intervals;
      uncovered = picked_alike (λ i. number_at cover.component i ≡ None)
          (λ i. IsCovered f.order (IsTightAt f) i → ⊥)
          (All-range (λ i. (number_at cover.component i ≡ None)
          ↔ (IsCovered f.order (IsTightAt f) i → ⊥)) 0 f.order
          (λ i below. covered.component.uncovered i (subst (λ m. i < m) (zero-add f.order) below)))
          pushed.picked;
      spelled = in_turn (line (codes "gj-faces 1")) (order_line f.order) (face_lines rows.listed)
          (flat_map cover_line cover.lines)
          (flat_map uncovered_line pushed.intervals) (line (codes "end")) first second third fourth
          whole
          (p ∙ ap (λ x. x ++ order_line n) is
          ∙ ap (λ m. line (codes "gj-faces 1") ++ order_line m) n_is) rows.appended r
          pushed.pushed s;
    }
