-- The tests of minimality in their order, and the first violation (own).
use Rattle.std.specs.Prelude.{ℕ, pos, ◌≡◌, ◌⊎◌, ◌+◌, ◌-◌, ◌*◌, ◌<◌, ◌≤◌, ◌+ℤ◌, ◌<ℤ◌, ◌≤ℤ◌, List, [], ◌∷◌, ◌++◌, length, map, sum, flat_map, get_or, All}
use Rattle.std.specs.List.{range_with_len}
use Rattle.gj_frac.specs.declared.Frac.{Frac}
use Rattle.gj_frac.specs.Fraction.{IsRatio}
use Rattle.gj_lemmas.specs.FirstThatFails.{IsFirstFailing}
use Rattle.gj_shape.specs.FunctionData.{FunctionData, at}
use Rattle.gj_shape.specs.Table.{table}
use Rattle.gj_shape.specs.Faces.{corners_of, limits_of}
use Rattle.gj_shape.specs.declared.faces.FaceKind.{FaceKind}
use Rattle.gj_shape.specs.declared.faces.FaceKind.TheVariants.{Vertex, Horizontal, Vertical, Diagonal, Lower, Upper}
use Rattle.gj_shape.specs.declared.violations.Violation.{Violation}
use Rattle.gj_shape.specs.declared.violations.Violation.TheVariants as violation

-- one test of minimality
pub data Test : Type 0 where
  -- the value at 0 is 0
  zero_at_zero : Test
  -- no value at i/q, and no value near i/q to the right or near (i + 1)/q to the left, is less than
  -- 0
  nonnegative_at : ℕ → Test
  nonnegative_after : ℕ → Test
  nonnegative_before : ℕ → Test
  -- the values at x and f - x add up to 1 at x = i/q, and on the open interval from i/q to (i +
  -- 1)/q
  symmetric_at : ℕ → Test
  symmetric_between : ℕ → Test
  -- the limit of the slack at this corner of this face of the square (a, b) is not less than 0
  subadditive_at : FaceKind → ℕ → ℕ → ℕ → Test

-- what each test asks of the function
abbrev pub Passes : FunctionData → Test → Type 0
Passes f zero_at_zero = at f.value 0 ≡ pos 0
Passes f (nonnegative_at i) = pos 0 ≤ℤ at f.value i
Passes f (nonnegative_after i) = pos 0 ≤ℤ at f.right i
Passes f (nonnegative_before i) = pos 0 ≤ℤ at f.left (i + 1)
Passes f (symmetric_at i) = at f.value i +ℤ at f.value (f.place + (f.order - i)) ≡ pos f.scale
Passes f (symmetric_between i) =
    (at f.right i +ℤ at f.left (f.place + (f.order - i)) ≡ pos f.scale)
    × (at f.left (i + 1) +ℤ at f.right (f.place + (f.order - (i + 1))) ≡ pos f.scale)
Passes f (subadditive_at kind a b corner) = pos 0 ≤ℤ get_or (limits_of f kind a b) corner (pos 0)

-- the tests of the limits at the corners of a face
abbrev pub tests_of_face : FaceKind → ℕ → ℕ → List Test
tests_of_face kind a b =
    map (subadditive_at kind a b) (range_with_len 0 (length (corners_of kind a b)))

-- over the squares (a, b) in walk order: a from 0, and inside it b from 0
abbrev pub over_squares : ℕ → (ℕ → ℕ → List Test) → List Test
over_squares q tests = flat_map (λ a. flat_map (λ b. tests a b) (range_with_len 0 q))
    (range_with_len 0 q)

-- all tests in their order: grid points come before open intervals, and vertices before all other
-- faces
abbrev pub tests_of : FunctionData → List Test
tests_of f =
    zero_at_zero ∷ []
    ++ map nonnegative_at (range_with_len 0 f.order)
    ++ flat_map (λ i. nonnegative_after i ∷ nonnegative_before i ∷ []) (range_with_len 0 f.order)
    ++ map symmetric_at (range_with_len 0 f.order)
    ++ map symmetric_between (range_with_len 0 f.order)
    ++ over_squares f.order (tests_of_face Vertex)
    ++ over_squares f.order (λ a b.
    flat_map (λ kind. tests_of_face kind a b)
    (Horizontal ∷ Vertical ∷ Diagonal ∷ Lower ∷ Upper ∷ []))

-- all tests pass
abbrev pub PassesAll : FunctionData → Type 0
PassesAll f = All (Passes f) (tests_of f)

-- n is the least number from m on that has the property
pub record IsLeastFrom (m : ℕ) (P : ℕ → Type 0) (n : ℕ) : Type 0 where
  pub from : m ≤ n
  pub holds : P n
  pub least : (k : ℕ) → m ≤ k → k < n → P k → ⊥

-- x is the point n/(order h)
abbrev pub IsOnGrid : FunctionData → ℕ → ℕ → Frac → Type 0
IsOnGrid f h n x = IsRatio x (pos n) (pos (f.order * h))

-- the function is negative at the point n/(order h)
abbrev pub IsNegativeOnGrid : FunctionData → ℕ → ℕ → Type 0
IsNegativeOnGrid f h n = table f h n <ℤ pos 0

-- the slack is negative at the points i/(order h) and j/(order h)
abbrev pub IsSuperadditiveOnGrid : FunctionData → ℕ → ℕ → ℕ → Type 0
IsSuperadditiveOnGrid f h i j = (table f h i +ℤ table f h j) <ℤ table f h (i + j)

-- on the grid of order h times the function's, the coordinate of the point with the weight 1/h at
-- each corner but c, and the weight that is left at c
abbrev pub near : ℕ → ℕ → List ℕ → ℕ
near h c coordinates = (h - length coordinates) * get_or coordinates c 0 + sum coordinates

abbrev pub first_coordinates : FaceKind → ℕ → ℕ → List ℕ
first_coordinates kind a b = map (λ corner. corner.0) (corners_of kind a b)

abbrev pub second_coordinates : FaceKind → ℕ → ℕ → List ℕ
second_coordinates kind a b = map (λ corner. corner.1) (corners_of kind a b)

-- the values at (i + 1/2)/order and at f less that add up to 1
abbrev pub MidpointsAgree : FunctionData → ℕ → Type 0
MidpointsAgree f i = table f 2 (2 * i + 1) +ℤ table f 2 (2 * (f.place + (f.order - i)) - 1)
    ≡ pos (f.scale * 2)

-- the point that a failed limit shows: h is the least number at which the slack there is negative
pub record ShowsNearCorner (f : FunctionData) (kind : FaceKind) (a b c : ℕ) (v : Violation) :
    Type 0 where
  pub h : ℕ
  pub x : Frac
  pub y : Frac
  pub least : IsLeastFrom (length (corners_of kind a b))
      (λ n. IsSuperadditiveOnGrid f n (near n c (first_coordinates kind a b))
      (near n c (second_coordinates kind a b))) h
  pub first : IsOnGrid f h (near h c (first_coordinates kind a b)) x
  pub second : IsOnGrid f h (near h c (second_coordinates kind a b)) y
  pub shown : v ≡ violation.Superadditive x y

-- what the test shows if it fails
abbrev pub Shows : FunctionData → Test → Violation → Type 0
Shows f zero_at_zero v = v ≡ violation.Zero
Shows f (nonnegative_at i) v = (x : Frac) × IsOnGrid f 1 i x × (v ≡ violation.Negative x)
Shows f (nonnegative_after i) v =
    (h : ℕ) × (x : Frac) × IsLeastFrom 2 (λ n. IsNegativeOnGrid f n (i * n + 1)) h
    × IsOnGrid f h (i * h + 1) x × (v ≡ violation.Negative x)
Shows f (nonnegative_before i) v =
    (h : ℕ) × (x : Frac) × IsLeastFrom 2 (λ n. IsNegativeOnGrid f n (i * n + n - 1)) h
    × IsOnGrid f h (i * h + h - 1) x × (v ≡ violation.Negative x)
Shows f (symmetric_at i) v = (x : Frac) × IsOnGrid f 1 i x × (v ≡ violation.Asymmetric x)
Shows f (symmetric_between i) v =
    (x : Frac) × (v ≡ violation.Asymmetric x)
    × (((MidpointsAgree f i → ⊥) × IsOnGrid f 2 (2 * i + 1) x)
    ⊎ (MidpointsAgree f i × IsOnGrid f 4 (4 * i + 1) x))
Shows f (subadditive_at kind a b c) v = ShowsNearCorner f kind a b c v

-- the violation is what the first test that fails shows
pub record IsFirstViolation (f : FunctionData) (v : Violation) : Type 0 where
  pub before : List Test
  pub test : Test
  pub first : IsFirstFailing (All (Passes f)) (tests_of f) before test
  pub shows : Shows f test v
