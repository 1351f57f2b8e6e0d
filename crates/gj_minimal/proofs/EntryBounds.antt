-- Where the tests of signs and of symmetry pass, all values and limits lie from 0 to 1.
use Rattle.std.proofs.Common.{◌≡◌, ℕ, ◌+◌, ◌*◌, ◌≤◌, ◌^◌, ℤ, pos, ◌≤ℤ◌, length, All, sym, subst, arith}
use Rattle.std.proofs.Math.Nat.{mul-le-mul_right}
use Rattle.std.proofs.lemmas.Int.{ints}
use Rattle.gj_lemmas.proofs.Lists.{All-one, All-two, All-three}
use Rattle.gj_shape.specs.FunctionData.{FunctionData, IsWithinBounds}
use Rattle.gj_shape.specs.Faces.{corners_of, limits_of, slack_from}
use Rattle.gj_shape.specs.declared.faces.FaceKind.{FaceKind}
use Rattle.gj_shape.specs.declared.faces.FaceKind.TheVariants.{Vertex, Horizontal, Vertical, Diagonal, Lower, Upper}
use Rattle.gj_theory.specs.EarlierTests.{PassesSymmetry, PassesBefore}
use Rattle.gj_shape.specs.SlopeRows.{total}
use Rattle.gj_theory.proofs.Lanes.{AreBounded, are_bounded}
use Rattle.gj_shape.specs.FirstViolation.Test.{subadditive_at}
use Rattle.gj_minimal.proofs.Theory.{limit_count, some_corners}
use Rattle.gj_minimal.proofs.NearPoints.{fine_grid}
use Rattle.gj_minimal.proofs.NearPairs.{total_at_most}

-- so the limits of the slack are at most twice the scale
slack_at_most : (s : ℕ) (x y z : ℤ) → x ≤ℤ pos s → y ≤ℤ pos s → pos 0 ≤ℤ z →
    slack_from x y z ≤ℤ pos (2 * s)
slack_at_most s x y z first second third = omega (arith, ints)

limits_at_most : (f : FunctionData) (kind : FaceKind) (a b : ℕ) → AreBounded f →
    All (λ n. n ≤ℤ pos (2 * f.scale)) (limits_of f kind a b)
limits_at_most f Vertex a b h =
    All-one (λ n. n ≤ℤ pos (2 * f.scale)) _
    (slack_at_most f.scale _ _ _ (h.value_high a) (h.value_high b)
    (h.value_low (a + b)))
limits_at_most f Horizontal a b h =
    All-two (λ n. n ≤ℤ pos (2 * f.scale)) _ _
    (slack_at_most f.scale _ _ _ (h.right_high a) (h.value_high b) (h.right_low (a + b)))
    (slack_at_most f.scale _ _ _ (h.left_high (a + 1)) (h.value_high b) (h.left_low (a + b + 1)))
limits_at_most f Vertical a b h =
    All-two (λ n. n ≤ℤ pos (2 * f.scale)) _ _
    (slack_at_most f.scale _ _ _ (h.value_high a) (h.right_high b) (h.right_low (a + b)))
    (slack_at_most f.scale _ _ _ (h.value_high a) (h.left_high (b + 1)) (h.left_low (a + b + 1)))
limits_at_most f Diagonal a b h =
    All-two (λ n. n ≤ℤ pos (2 * f.scale)) _ _
    (slack_at_most f.scale _ _ _ (h.left_high (a + 1)) (h.right_high b) (h.value_low (a + b + 1)))
    (slack_at_most f.scale _ _ _ (h.right_high a) (h.left_high (b + 1)) (h.value_low (a + b + 1)))
limits_at_most f Lower a b h =
    All-three (λ n. n ≤ℤ pos (2 * f.scale)) _ _ _
    (slack_at_most f.scale _ _ _ (h.right_high a) (h.right_high b) (h.right_low (a + b)))
    (slack_at_most f.scale _ _ _ (h.left_high (a + 1)) (h.right_high b) (h.left_low (a + b + 1)))
    (slack_at_most f.scale _ _ _ (h.right_high a) (h.left_high (b + 1)) (h.left_low (a + b + 1)))
limits_at_most f Upper a b h =
    All-three (λ n. n ≤ℤ pos (2 * f.scale)) _ _ _
    (slack_at_most f.scale _ _ _ (h.left_high (a + 1)) (h.right_high b) (h.right_low (a + b + 1)))
    (slack_at_most f.scale _ _ _ (h.right_high a) (h.left_high (b + 1)) (h.right_low (a + b + 1)))
    (slack_at_most f.scale _ _ _ (h.left_high (a + 1)) (h.left_high (b + 1))
    (h.left_low (a + b + 1 + 1)))

-- and their total at a face is below 2^34
pub total_small : (f : FunctionData) (kind : FaceKind) (a b : ℕ) → IsWithinBounds f →
    PassesSymmetry f →
    total (limits_of f kind a b) ≤ℤ pos (2 ^ 34)
total_small f kind a b l h =
    let most = total_at_most (2 * f.scale) (limits_of f kind a b)
    (limits_at_most f kind a b (are_bounded f l h)) in
    let many = limit_count f kind a b in
    let few = (some_corners kind a b).1 in
    let scale = l.scale_high in
    let corners : length (limits_of f kind a b) ≤ 3 = omega arith in
    let product : length (limits_of f kind a b) * (2 * f.scale) ≤ 3 * (2 * f.scale) =
    mul-le-mul_right (2 * f.scale)
    corners in
    omega (arith, ints)

-- so the grid near a corner is within 2^62
pub fine_near_corner : (f : FunctionData) (kind : FaceKind) (a b q h n : ℕ) (total_limits : ℤ) →
    IsWithinBounds f →
    PassesSymmetry f → q ≡ f.order → n ≡ length (corners_of kind a b) →
    total_limits ≡ total (limits_of f kind a b) →
    ((t : ℕ) → total_limits ≤ℤ pos t → h ≤ n + t + 1) → q * h ≤ 2 ^ 62
fine_near_corner f kind a b q h n total_limits l symmetry order many total_is bounded =
    let small = total_small f kind a b l symmetry in
    let few = (some_corners kind a b).1 in
    let high = l.order_high in
    let most = bounded (2 ^ 34) (subst (λ z. z ≤ℤ pos (2 ^ 34)) (sym total_is) small) in
    fine_grid q h (omega arith) (omega arith)

-- the tests of symmetry come before those of all faces
pub symmetry_before : (f : FunctionData) (kind : FaceKind) (a b c : ℕ) →
    PassesBefore f (subadditive_at kind a b c) →
    PassesSymmetry f
symmetry_before f Vertex a b c h = h.0
symmetry_before f Horizontal a b c h = h.vertices.symmetry
symmetry_before f Vertical a b c h = h.vertices.symmetry
symmetry_before f Diagonal a b c h = h.vertices.symmetry
symmetry_before f Lower a b c h = h.vertices.symmetry
symmetry_before f Upper a b c h = h.vertices.symmetry
