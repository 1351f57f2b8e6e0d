-- The pair of points near a corner of a face.
use Rattle.std.proofs.Common.{◌≡◌, ℕ, zero, suc, ◌+◌, ◌-◌, ◌*◌, ◌<◌, ◌≤◌, ℤ, pos, ◌+ℤ◌, ◌*ℤ◌, ◌<ℤ◌, ◌≤ℤ◌, List, [], ◌∷◌, length, get_or, sum, take, All, refl, sym, ap, subst, subst₂, ◌∙◌, arith}
use Rattle.std.proofs.lemmas.Int.{ints}
use Rattle.std.proofs.Math.ListN.{get_or-map}
use Rattle.std.proofs.lemmas.List.Elements.{All-get_or, All-head, All-tail}
use Rattle.gj_frac.specs.declared.Frac.{Frac}
use Rattle.gj_frac.specs.Fraction.{IsRatio}
use Rattle.gj_lemmas.proofs.Lists.{All-one, All-two, All-three}
use Rattle.gj_shape.specs.FunctionData.{FunctionData, IsWithinBounds}
use Rattle.gj_shape.specs.Faces.{corners_of, limits_of}
use Rattle.gj_shape.specs.Table.{table}
use Rattle.gj_shape.specs.FirstViolation.{near, first_coordinates, second_coordinates, IsLeastFrom, IsSuperadditiveOnGrid, ShowsNearCorner}
use Rattle.gj_shape.specs.declared.faces.FaceKind.{FaceKind}
use Rattle.gj_shape.specs.declared.faces.FaceKind.TheVariants.{Vertex, Horizontal, Vertical, Diagonal, Lower, Upper}
use Rattle.gj_shape.specs.declared.violations.Violation.TheVariants as violation
use Rattle.gj_complex.specs.declared.square.Square.{Square}
use Rattle.gj_complex.specs.Squares.{limits_in}
use Rattle.gj_shape.specs.SlopeRows.{total}
use Rattle.gj_theory.specs.NearCorners.{near_value}
use Rattle.gj_minimal.proofs.Theory.{limit_count, near_corner}
use Rattle.gj_minimal.proofs.NearPoints.{least_along}

-- ---- coordinates

-- a face has one coordinate for each corner
pub as_many_coordinates : (kind : FaceKind) (a b : ℕ) →
    (length (first_coordinates kind a b) ≡ length (corners_of kind a b))
    × (length (second_coordinates kind a b) ≡ length (corners_of kind a b))
as_many_coordinates Vertex a b = (refl, refl)
as_many_coordinates Horizontal a b = (refl, refl)
as_many_coordinates Vertical a b = (refl, refl)
as_many_coordinates Diagonal a b = (refl, refl)
as_many_coordinates Lower a b = (refl, refl)
as_many_coordinates Upper a b = (refl, refl)

-- and one limit in a square
pub as_many_limits_in : (s : Square) (kind : FaceKind) →
    length (limits_in s kind) ≡ length (corners_of kind 0 0)
as_many_limits_in s Vertex = refl
as_many_limits_in s Horizontal = refl
as_many_limits_in s Vertical = refl
as_many_limits_in s Diagonal = refl
as_many_limits_in s Lower = refl
as_many_limits_in s Upper = refl

-- the coordinates are up to the order
abbrev IsUpTo : ℕ → ℕ × ℕ → Type 0
IsUpTo q corner = (corner.0 ≤ q) × (corner.1 ≤ q)

corners_up_to : (kind : FaceKind) (a b q : ℕ) → a < q → b < q → All (IsUpTo q) (corners_of kind a b)
corners_up_to Vertex a b q first second = All-one (IsUpTo q) (a, b) (omega arith, omega arith)
corners_up_to Horizontal a b q first second =
    All-two (IsUpTo q) (a, b) (a + 1, b) (omega arith, omega arith) (omega arith, omega arith)
corners_up_to Vertical a b q first second =
    All-two (IsUpTo q) (a, b) (a, b + 1) (omega arith, omega arith) (omega arith, omega arith)
corners_up_to Diagonal a b q first second =
    All-two (IsUpTo q) (a + 1, b) (a, b + 1) (omega arith, omega arith) (omega arith, omega arith)
corners_up_to Lower a b q first second =
    All-three (IsUpTo q) (a, b) (a + 1, b) (a, b + 1) (omega arith, omega arith)
    (omega arith, omega arith)
    (omega arith, omega arith)
corners_up_to Upper a b q first second =
    All-three (IsUpTo q) (a + 1, b) (a, b + 1) (a + 1, b + 1) (omega arith, omega arith)
    (omega arith, omega arith)
    (omega arith, omega arith)

pub corner_up_to : (kind : FaceKind) (a b c q : ℕ) → a < q → b < q →
    c < length (corners_of kind a b) →
    IsUpTo q (get_or (corners_of kind a b) c (0, 0))
corner_up_to kind a b c q first second within =
    All-get_or (IsUpTo q) (corners_of kind a b) c (0, 0) within
    (corners_up_to kind a b q first second)

-- and add up to less than the order for each corner
pub sums_below : (kind : FaceKind) (a b q : ℕ) → a < q → b < q →
    (sum (first_coordinates kind a b) < q * length (corners_of kind a b))
    × (sum (second_coordinates kind a b) < q * length (corners_of kind a b))
sums_below Vertex a b q first second = (omega arith, omega arith)
sums_below Horizontal a b q first second = (omega arith, omega arith)
sums_below Vertical a b q first second = (omega arith, omega arith)
sums_below Diagonal a b q first second = (omega arith, omega arith)
sums_below Lower a b q first second = (omega arith, omega arith)
sums_below Upper a b q first second = (omega arith, omega arith)

-- the coordinates near a corner
near_first : (h c : ℕ) (kind : FaceKind) (a b : ℕ) →
    (h - length (corners_of kind a b)) * (get_or (corners_of kind a b) c (0, 0)).0 + sum
    (first_coordinates kind a b)
    ≡ near h c (first_coordinates kind a b)
near_first h c kind a b =
    let many = (as_many_coordinates kind a b).0 in
    let entry = get_or-map (λ (corner : ℕ × ℕ). corner.0) (corners_of kind a b) c (0, 0) in
    ap (λ (n : ℕ). (h - n) * (get_or (corners_of kind a b) c (0, 0)).0 + sum
    (first_coordinates kind a b)) (sym many)
    ∙ ap (λ (x : ℕ). (h - length (first_coordinates kind a b)) * x + sum
    (first_coordinates kind a b)) (sym entry)

near_second : (h c : ℕ) (kind : FaceKind) (a b : ℕ) →
    (h - length (corners_of kind a b)) * (get_or (corners_of kind a b) c (0, 0)).1 + sum
    (second_coordinates kind a b)
    ≡ near h c (second_coordinates kind a b)
near_second h c kind a b =
    let many = (as_many_coordinates kind a b).1 in
    let entry = get_or-map (λ (corner : ℕ × ℕ). corner.1) (corners_of kind a b) c (0, 0) in
    ap (λ (n : ℕ). (h - n) * (get_or (corners_of kind a b) c (0, 0)).1 + sum
    (second_coordinates kind a b)) (sym many)
    ∙ ap (λ (x : ℕ). (h - length (second_coordinates kind a b)) * x + sum
    (second_coordinates kind a b)) (sym entry)

-- ---- the total of the limits

pub total_more : (ns : List ℤ) (c : ℕ) → c < length ns → total (take (c + 1) ns)
    ≡ total (take c ns) +ℤ get_or ns c (pos 0)
total_more [] c below = absurd (omega arith)
total_more (n ∷ ns) zero below = omega (arith, ints)
total_more (n ∷ ns) (suc c) below =
    let step : suc c + 1 ≡ suc (c + 1) = omega arith in
    let rest = total_more ns c (omega arith) in
    rw step (omega (arith, ints))

pub total_at_most : (b : ℕ) (ns : List ℤ) → All (λ n. n ≤ℤ pos b) ns →
    total ns ≤ℤ pos (length ns * b)
total_at_most b [] all = omega (arith, ints)
total_at_most b (n ∷ ns) all =
    let head = All-head (λ n. n ≤ℤ pos b) n ns all in
    let rest = total_at_most b ns (All-tail (λ n. n ≤ℤ pos b) n ns all) in
    omega (arith, ints)

-- ---- what is shown

below_by_slack : (s t u v : ℤ) → s +ℤ t ≡ u +ℤ v → v <ℤ pos 0 → (s +ℤ t) <ℤ u
below_by_slack s t u v e negative = omega (arith, ints)

slack_by_below : (s t u v : ℤ) → s +ℤ t ≡ u +ℤ v → (s +ℤ t) <ℤ u → v <ℤ pos 0
slack_by_below s t u v e below = omega (arith, ints)

-- the slack near a corner is negative if k times it is
superadditive_near : (f : FunctionData) (kind : FaceKind) (a b c k : ℕ) → IsWithinBounds f →
    c < length (corners_of kind a b) → length (corners_of kind a b) ≤ k →
    near_value k c (limits_of f kind a b) <ℤ pos 0 →
    IsSuperadditiveOnGrid f k (near k c (first_coordinates kind a b))
    (near k c (second_coordinates kind a b))
superadditive_near f kind a b c k limits within fits negative =
    let i = near k c (first_coordinates kind a b) in
    let j = near k c (second_coordinates kind a b) in
    below_by_slack (table f k i) (table f k j) (table f k (i + j))
    (near_value k c (limits_of f kind a b))
    (near_corner f kind a b c k within fits) negative

-- and only there
negative_near : (f : FunctionData) (kind : FaceKind) (a b c k : ℕ) → IsWithinBounds f →
    c < length (corners_of kind a b) → length (corners_of kind a b) ≤ k →
    IsSuperadditiveOnGrid f k (near k c (first_coordinates kind a b))
    (near k c (second_coordinates kind a b)) →
    near_value k c (limits_of f kind a b) <ℤ pos 0
negative_near f kind a b c k limits within fits below =
    let i = near k c (first_coordinates kind a b) in
    let j = near k c (second_coordinates kind a b) in
    slack_by_below (table f k i) (table f k j) (table f k (i + j))
    (near_value k c (limits_of f kind a b))
    (near_corner f kind a b c k within fits) below

pub shows_pair : (f : FunctionData) (kind : FaceKind) (a b c h : ℕ) (limit total_limits : ℤ)
    (x y : Frac) →
    IsWithinBounds f → c < length (corners_of kind a b) →
    limit ≡ get_or (limits_of f kind a b) c (pos 0) →
    total_limits ≡ total (limits_of f kind a b) →
    IsLeastFrom (length (corners_of kind a b))
    (λ n. (pos (n - length (corners_of kind a b)) *ℤ limit +ℤ total_limits) <ℤ pos 0) h →
    IsRatio x (pos ((h - length (corners_of kind a b)) * (get_or (corners_of kind a b) c (0, 0)).0
    + sum (first_coordinates kind a b))) (pos (f.order * h)) →
    IsRatio y (pos ((h - length (corners_of kind a b)) * (get_or (corners_of kind a b) c (0, 0)).1
    + sum (second_coordinates kind a b))) (pos (f.order * h)) →
    ShowsNearCorner f kind a b c (violation.Superadditive x y)
shows_pair f kind a b c h limit total_limits x y limits within limit_is total_is least first
    second =
    let m = length (corners_of kind a b) in
    let value : (k : ℕ) → near_value k c (limits_of f kind a b)
    ≡ pos (k - length (corners_of kind a b)) *ℤ limit +ℤ total_limits = λ k.
    ap (λ (n : ℕ). pos (k - n) *ℤ get_or (limits_of f kind a b) c (pos 0) +ℤ total
    (limits_of f kind a b))
    (limit_count f kind a b)
    ∙ ap (λ z. pos (k - m) *ℤ z +ℤ total (limits_of f kind a b)) (sym limit_is)
    ∙ ap (λ z. pos (k - m) *ℤ limit +ℤ z) (sym total_is) in
    record {
      h = h;
      x = x;
      y = y;
      least = least_along m (λ n. (pos (n - m) *ℤ limit +ℤ total_limits) <ℤ pos 0)
          (λ n. IsSuperadditiveOnGrid f n (near n c (first_coordinates kind a b))
          (near n c (second_coordinates kind a b))) h
          (λ k fits negative. superadditive_near f kind a b c k limits within fits
          (subst (λ z. z <ℤ pos 0) (sym (value k)) negative))
          (λ k fits negative. subst (λ z. z <ℤ pos 0) (value k)
          (negative_near f kind a b c k limits within fits negative))
          least;
      first = subst (λ (n : ℕ). IsRatio x (pos n) (pos (f.order * h)))
          (near_first h c kind a b) first;
      second = subst (λ (n : ℕ). IsRatio y (pos n) (pos (f.order * h)))
          (near_second h c kind a b) second;
      shown = refl;
    }

-- the same from the numbers of the code
pub pair_shown : (f : FunctionData) (kind : FaceKind) (a b c h n q i j sum_i sum_j : ℕ)
    (limit total_limits : ℤ)
    (x y : Frac) →
    IsWithinBounds f → c < length (corners_of kind a b) → q ≡ f.order →
    n ≡ length (corners_of kind a b) →
    (i, j) ≡ get_or (corners_of kind a b) c (0, 0) → sum_i ≡ sum (first_coordinates kind a b) →
    sum_j ≡ sum (second_coordinates kind a b) → limit ≡ get_or (limits_of f kind a b) c (pos 0) →
    total_limits ≡ total (limits_of f kind a b) →
    IsLeastFrom n (λ m. (pos (m - n) *ℤ limit +ℤ total_limits) <ℤ pos 0) h →
    IsRatio x (pos ((h - n) * i + sum_i)) (pos (q * h)) →
    IsRatio y (pos ((h - n) * j + sum_j)) (pos (q * h)) →
    ShowsNearCorner f kind a b c (violation.Superadditive x y)
pair_shown f kind a b c h n q i j sum_i sum_j limit total_limits x y limits within order many corner
    first_sum
    second_sum limit_is total_is least first second =
    let m = length (corners_of kind a b) in
    let at_first : i ≡ (get_or (corners_of kind a b) c (0, 0)).0 = ap (λ (p : ℕ × ℕ). p.0) corner in
    let at_second : j ≡ (get_or (corners_of kind a b) c (0, 0)).1 =
    ap (λ (p : ℕ × ℕ). p.1) corner in
    let first_index : (h - n) * i + sum_i
    ≡ (h - length (corners_of kind a b)) * (get_or (corners_of kind a b) c (0, 0)).0
    + sum (first_coordinates kind a b) = cc in
    let second_index : (h - n) * j + sum_j
    ≡ (h - length (corners_of kind a b)) * (get_or (corners_of kind a b) c (0, 0)).1
    + sum (second_coordinates kind a b) = cc in
    shows_pair f kind a b c h limit total_limits x y limits within limit_is total_is
    (subst (λ (k : ℕ). IsLeastFrom k (λ m. (pos (m - k) *ℤ limit +ℤ total_limits) <ℤ pos 0) h) many
    least)
    (subst₂ (λ (k d : ℕ). IsRatio x (pos k) (pos (d * h))) first_index order first)
    (subst₂ (λ (k d : ℕ). IsRatio y (pos k) (pos (d * h))) second_index order second)
