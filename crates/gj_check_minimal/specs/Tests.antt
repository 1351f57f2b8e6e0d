-- The tests of minimality by grid points and squares (own).
use Rattle.std.specs.Prelude.{ℕ, ◌<◌, ◌≤◌, length}
use Rattle.gj_shape.specs.FunctionData.{FunctionData}
use Rattle.gj_shape.specs.Faces.{corners_of}
use Rattle.gj_shape.specs.FirstViolation.{Passes}
use Rattle.gj_shape.specs.FirstViolation.Test.{nonnegative_at, nonnegative_after, nonnegative_before, symmetric_at, symmetric_between, subadditive_at}
use Rattle.gj_shape.specs.declared.faces.FaceKind.{FaceKind}
use Rattle.gj_theory.specs.EarlierTests.{PassesVertex}

-- no value at i/q, and none from there to (i + 1)/q, is negative
abbrev pub IsNonnegativeAt : FunctionData → ℕ → Type 0
IsNonnegativeAt f i = Passes f (nonnegative_at i) × Passes f (nonnegative_after i)
    × Passes f (nonnegative_before i)

-- for each i
abbrev pub HasNonnegativeValues : FunctionData → Type 0
HasNonnegativeValues f = (i : ℕ) → i < f.order → IsNonnegativeAt f i

-- the values at x and f - x add up to 1 at i/q, and from there to (i + 1)/q
abbrev pub IsSymmetricAt : FunctionData → ℕ → Type 0
IsSymmetricAt f i = Passes f (symmetric_at i) × Passes f (symmetric_between i)

-- for each i
abbrev pub IsSymmetric : FunctionData → Type 0
IsSymmetric f = (i : ℕ) → i < f.order → IsSymmetricAt f i

-- no limit of the slack at a corner of a face of the square (a, b) is negative
abbrev pub IsSubadditiveAt : FunctionData → ℕ → ℕ → Type 0
IsSubadditiveAt f a b =
    (kind : FaceKind) (c : ℕ) → c < length (corners_of kind a b) →
    Passes f (subadditive_at kind a b c)

-- for each b from a on
abbrev pub IsSubadditiveRow : FunctionData → ℕ → Type 0
IsSubadditiveRow f a = (b : ℕ) → a ≤ b → b < f.order → IsSubadditiveAt f a b

-- for all a and b
abbrev pub IsSubadditive : FunctionData → Type 0
IsSubadditive f = (a b : ℕ) → a < f.order → b < f.order → IsSubadditiveAt f a b

-- the slack at (a/q, b/q) is not negative, for all a and b
abbrev pub IsSubadditiveOnGrid : FunctionData → Type 0
IsSubadditiveOnGrid f = (a b : ℕ) → a < f.order → b < f.order → PassesVertex f a b
