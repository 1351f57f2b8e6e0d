-- The tests of minimality that come before a test pass (own).
use Rattle.std.specs.Prelude.{ℕ, ◌<◌, All, length}
use Rattle.gj_shape.specs.FunctionData.{FunctionData}
use Rattle.gj_shape.specs.Faces.{corners_of}
use Rattle.gj_shape.specs.FirstViolation.{Test, Passes, tests_of_face}
use Rattle.gj_shape.specs.FirstViolation.Test.{zero_at_zero, nonnegative_at, nonnegative_after, nonnegative_before, symmetric_at, symmetric_between, subadditive_at}
use Rattle.gj_shape.specs.declared.faces.FaceKind.{FaceKind}
use Rattle.gj_shape.specs.declared.faces.FaceKind.TheVariants.{Vertex, Horizontal, Vertical, Diagonal, Lower, Upper}

-- the value at 0 is 0 and no value at a grid point is negative
pub record PassesValues (f : FunctionData) : Type 0 where
  pub zero : Passes f zero_at_zero
  pub nonnegative : (i : ℕ) → i < f.order → Passes f (nonnegative_at i)

-- nor is any value between grid points
pub record PassesSigns (f : FunctionData) : Type 0 where
  pub values : PassesValues f
  pub after : (i : ℕ) → i < f.order → Passes f (nonnegative_after i)
  pub before : (i : ℕ) → i < f.order → Passes f (nonnegative_before i)

-- and the values at x and f - x add up to 1, at grid points
pub record PassesMirrors (f : FunctionData) : Type 0 where
  pub signs : PassesSigns f
  pub symmetric : (i : ℕ) → i < f.order → Passes f (symmetric_at i)

-- and between them
pub record PassesSymmetry (f : FunctionData) : Type 0 where
  pub mirrors : PassesMirrors f
  pub between : (i : ℕ) → i < f.order → Passes f (symmetric_between i)

-- the slack at (a/q, b/q) is not negative
abbrev pub PassesVertex : FunctionData → ℕ → ℕ → Type 0
PassesVertex f a b = Passes f (subadditive_at Vertex a b 0)

-- and the slack at each vertex is not negative
pub record PassesVertices (f : FunctionData) : Type 0 where
  pub symmetry : PassesSymmetry f
  pub vertices : (a b : ℕ) → a < f.order → b < f.order → PassesVertex f a b

-- the limits at the corners of the face pass
abbrev pub PassesFace : FunctionData → FaceKind → ℕ → ℕ → Type 0
PassesFace f kind a b = All (Passes f) (tests_of_face kind a b)

-- the limits at the corners of the faces of a square but its vertex pass
pub record PassesSquare (f : FunctionData) (a b : ℕ) : Type 0 where
  pub horizontal : PassesFace f Horizontal a b
  pub vertical : PassesFace f Vertical a b
  pub diagonal : PassesFace f Diagonal a b
  pub lower : PassesFace f Lower a b
  pub upper : PassesFace f Upper a b

-- the faces of a square that stand before a kind pass
abbrev pub PassesKindsBefore : FunctionData → ℕ → ℕ → FaceKind → Type 0
PassesKindsBefore f a b Vertex = Unit {0}
PassesKindsBefore f a b Horizontal = Unit {0}
PassesKindsBefore f a b Vertical = PassesFace f Horizontal a b
PassesKindsBefore f a b Diagonal = PassesFace f Horizontal a b × PassesFace f Vertical a b
PassesKindsBefore f a b Lower = PassesFace f Horizontal a b × PassesFace f Vertical a b
    × PassesFace f Diagonal a b
PassesKindsBefore f a b Upper =
    PassesFace f Horizontal a b × PassesFace f Vertical a b × PassesFace f Diagonal a b
    × PassesFace f Lower a b

-- the squares before (a, b) in walk order have the property: all of an earlier row, and in row a
-- those before b
pub record HoldsBefore (f : FunctionData) (P : ℕ → ℕ → Type 0) (a b : ℕ) : Type 0 where
  pub rows : (i j : ℕ) → i < a → j < f.order → P i j
  pub row : (j : ℕ) → j < b → P a j

-- the tests of faces that come before a limit of a face that is no vertex pass
pub record PassesFacesBefore (f : FunctionData) (kind : FaceKind) (a b c : ℕ) : Type 0 where
  pub vertices : PassesVertices f
  pub squares : HoldsBefore f (PassesSquare f) a b
  pub kinds : PassesKindsBefore f a b kind
  pub corners : (k : ℕ) → k < c → Passes f (subadditive_at kind a b k)

-- all tests that come before the test pass
abbrev pub PassesBefore : FunctionData → Test → Type 0
PassesBefore f zero_at_zero = Unit {0}
PassesBefore f (nonnegative_at i) = Passes f zero_at_zero
    × ((j : ℕ) → j < i → Passes f (nonnegative_at j))
PassesBefore f (nonnegative_after i) =
    PassesValues f × ((j : ℕ) → j < i →
    Passes f (nonnegative_after j) × Passes f (nonnegative_before j))
PassesBefore f (nonnegative_before i) =
    PassesValues f × ((j : ℕ) → j < i →
    Passes f (nonnegative_after j) × Passes f (nonnegative_before j))
    × Passes f (nonnegative_after i)
PassesBefore f (symmetric_at i) = PassesSigns f × ((j : ℕ) → j < i → Passes f (symmetric_at j))
PassesBefore f (symmetric_between i) = PassesMirrors f
    × ((j : ℕ) → j < i → Passes f (symmetric_between j))
PassesBefore f (subadditive_at Vertex a b c) =
    PassesSymmetry f × HoldsBefore f (λ i j. Passes f (subadditive_at Vertex i j 0)) a b
PassesBefore f (subadditive_at kind a b c) = PassesFacesBefore f kind a b c

-- the test is one of the function's: its indices are below the order, and its corner is one of the
-- face's
abbrev pub IsTestOf : FunctionData → Test → Type 0
IsTestOf f zero_at_zero = Unit {0}
IsTestOf f (nonnegative_at i) = i < f.order
IsTestOf f (nonnegative_after i) = i < f.order
IsTestOf f (nonnegative_before i) = i < f.order
IsTestOf f (symmetric_at i) = i < f.order
IsTestOf f (symmetric_between i) = i < f.order
IsTestOf f (subadditive_at kind a b c) = (a < f.order) × (b < f.order)
    × (c < length (corners_of kind a b))
