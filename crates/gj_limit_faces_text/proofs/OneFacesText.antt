-- The text of the faces and intervals of a function that may jump is the only one.
use Rattle.std.proofs.Common.{◌≡◌, ℕ, List, ◌∷◌, ◌++◌, codes, flat_map, refl, sym, ap, ◌∙◌}
use Rattle.gj_shape.specs.FunctionData.{FunctionData}
use Rattle.gj_shape.specs.declared.extremality.CoverLine.{CoverLine}
use Rattle.gj_shape.specs.declared.faces.Face.{Face}
use Rattle.gj_faces.specs.Picked.{ArePicked, none, kept, dropped}
use Rattle.gj_jumps.specs.LimitCover.{IsTightAt}
use Rattle.gj_function_lines.specs.FunctionLines.{line, order_line}
use Rattle.gj_function_lines.specs.FaceLines.{face_text, cover_line}
use Rattle.gj_verdict_text.specs.FacesText.{uncovered_line}
use Rattle.gj_limit_faces_text.specs.LimitFacesText.{IsLimitFacesText}
use Rattle.gj_limit_faces_text.proofs.OneLimitCover.{one_limit_cover}

pub one_picked : {X : Type 0} (P : X → Type 0) {xs ys zs : List X} → ArePicked P xs ys →
    ArePicked P xs zs → ys ≡ zs
one_picked P none none = refl
one_picked P (kept {x} p h) (kept q k) = ap (λ l. x ∷ l) (one_picked P h k)
one_picked P (kept p h) (dropped q k) = absurd (q p)
one_picked P (dropped p h) (kept q k) = absurd (p q)
one_picked P (dropped p h) (dropped q k) = one_picked P h k

-- the text of these faces, cover lines and intervals
abbrev pub listing : ℕ → List Face → List CoverLine → List ℕ → List ℕ
listing q listed lines intervals =
    line (codes "gj-faces 1") ++ order_line q ++ flat_map (λ face. line (face_text face)) listed
    ++ flat_map cover_line lines
    ++ flat_map uncovered_line intervals ++ line (codes "end")

pub one_limit_faces_text : (f : FunctionData) (x y : List ℕ) → IsLimitFacesText f x →
    IsLimitFacesText f y → x ≡ y
one_limit_faces_text f x y h k =
    let listed = one_picked _ h.maximal k.maximal in
    let lines = one_limit_cover f.order (IsTightAt f) h.lines k.lines h.cover k.cover in
    let intervals = one_picked _ h.uncovered k.uncovered in
    h.spelled ∙ (λ i. listing f.order (listed i) (lines i) (intervals i)) ∙ sym k.spelled
