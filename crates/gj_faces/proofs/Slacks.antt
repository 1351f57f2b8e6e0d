-- Additive faces by the limits of the slack at their corners.
use Rattle.std.proofs.Common.{◌≡◌, ◌↔◌, ℕ, ◌+◌, ◌<◌, ◌^◌, ℤ, pos, ◌+ℤ◌, unsigned_abs, to_z, of_z, w64, length, get_or, ap, sym, ◌∙◌, arith}
use Rattle.std.proofs.lemmas.Int.{ints, to_z-of_z}
use Rattle.std.proofs.lemmas.List.{get_or-map}
use Rattle.std.proofs.lemmas.List.Elements.{All-from_get_or, All-get_or}
use Rattle.gj_shape.specs.Additive.{IsTight, IsAdditive}
use Rattle.gj_shape.specs.Faces.{corners_of, limits_of, slack_from}
use Rattle.gj_shape.specs.FunctionData.{FunctionData, IsContinuous, at}
use Rattle.gj_shape.specs.declared.faces.FaceKind.{FaceKind}
use Rattle.gj_shape.proofs.TableLemmas.{slack_at, limits_are_slacks}
use Rattle.gj_faces.proofs.Corners.{corner_count}

zero_slack : (x y s : ℤ) → (slack_from x y s ≡ pos 0) ↔ (x +ℤ y ≡ s)
zero_slack x y s = (λ h. omega (arith, ints), λ h. omega (arith, ints))

-- the limit at a corner is the slack there
limit_is : (f : FunctionData) (kind : FaceKind) (a b k : ℕ) → IsContinuous f →
    k < length (corners_of kind 0 0) →
    get_or (limits_of f kind a b) k (pos 0) ≡ slack_at f (get_or (corners_of kind a b) k (0, 0))
limit_is f kind a b k continuous below =
    let count = corner_count kind a b in
    ap (λ ns. get_or ns k (pos 0)) (limits_are_slacks f kind a b continuous)
    ∙ get_or-map (slack_at f) (corners_of kind a b) k (0, 0) (pos 0) (omega arith)

pub additive_by_limits : (f : FunctionData) (kind : FaceKind) (a b : ℕ) → IsContinuous f →
    ((k : ℕ) → k < length (corners_of kind 0 0) → get_or (limits_of f kind a b) k (pos 0) ≡ pos 0) →
    IsAdditive (IsTight f) kind a b
additive_by_limits f kind a b continuous h =
    let count = corner_count kind a b in
    All-from_get_or (λ corner. IsTight f corner.0 corner.1) (corners_of kind a b) (0, 0)
    (λ k below.
    let corner = get_or (corners_of kind a b) k (0, 0) in
    (zero_slack (at f.value corner.0) (at f.value corner.1) (at f.value (corner.0 + corner.1))).0
    (sym (limit_is f kind a b k continuous (omega arith)) ∙ h k (omega arith)))

pub limits_of_additive : (f : FunctionData) (kind : FaceKind) (a b k : ℕ) → IsContinuous f →
    k < length (corners_of kind 0 0) → IsAdditive (IsTight f) kind a b →
    get_or (limits_of f kind a b) k (pos 0) ≡ pos 0
limits_of_additive f kind a b k continuous below additive =
    let count = corner_count kind a b in
    let corner = get_or (corners_of kind a b) k (0, 0) in
    limit_is f kind a b k continuous below
    ∙ (zero_slack (at f.value corner.0) (at f.value corner.1) (at f.value (corner.0 + corner.1))).1
    (All-get_or (λ corner. IsTight f corner.0 corner.1) (corners_of kind a b) k (0, 0)
    (omega arith) additive)

-- a number of 53 bits that is 0, as the code tests it
pub zero_bits : (x : ℤ) → unsigned_abs x < 2 ^ 53 → (of_z w64 x ≡ 0) ↔ (x ≡ pos 0)
zero_bits x small = (
  λ e. sym (to_z-of_z w64 x (omega (arith, ints))) ∙ ap (to_z w64) e,
  λ e. ap (of_z w64) e,
)
