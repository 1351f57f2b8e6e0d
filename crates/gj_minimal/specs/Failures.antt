-- The first failed test of minimality (own).
use Rattle.std.specs.Prelude.{ℕ, pos, ◌≡◌, ◌⊎◌, ◌+◌, ◌*◌, ◌<◌, ◌≤◌, ◌^◌, ◌≤ℤ◌, get_or}
use Rattle.gj_shape.specs.FunctionData.{FunctionData}
use Rattle.gj_shape.specs.FirstViolation.{Test, Passes}
use Rattle.gj_shape.specs.FirstViolation.Test.{zero_at_zero, nonnegative_at, nonnegative_after, nonnegative_before, symmetric_at, symmetric_between, subadditive_at}
use Rattle.gj_shape.specs.declared.faces.FaceKind.{FaceKind}
use Rattle.gj_shape.specs.declared.violations.Violation.{Violation}
use Rattle.gj_complex.specs.declared.square.Square.{Square}
use Rattle.gj_complex.specs.Squares.{limits_in}
use Rattle.gj_theory.specs.EarlierTests.{IsTestOf, PassesBefore, PassesVertex, PassesSquare}
use Rattle.gj_theory.specs.GridPoints.{IsAtGridPoints}
use Rattle.gj_minimal.specs.declared.failures.Failure.{Failure}
use Rattle.gj_minimal.specs.declared.failures.Failure.TheVariants as failure
use Rattle.gj_minimal.specs.FirstFailure.{HoldsBelow}

-- the test that failed
abbrev pub test_of : Failure → Test
test_of failure.Zero = zero_at_zero
test_of (failure.Value i) = nonnegative_at i
test_of (failure.Start i) = nonnegative_after i
test_of (failure.End i) = nonnegative_before i
test_of (failure.Mirror i) = symmetric_at i
test_of (failure.Interval i) = symmetric_between i
test_of (failure.Corner face corner) = subadditive_at face.kind face.a face.b corner

-- the function fails the test, and passes all that come before it
pub record FailsFirst (f : FunctionData) (x : Failure) : Type 0 where
  pub test : IsTestOf f (test_of x)
  pub before : PassesBefore f (test_of x)
  pub fails : Passes f (test_of x) → ⊥

-- the slack at (a/q, b/q) is not negative, for each b
abbrev pub PassesVertexRow : FunctionData → ℕ → Type 0
PassesVertexRow f a = HoldsBelow (PassesVertex f a) f.order

-- the sum of three indices below the order is the place modulo the order
abbrev pub AddUpToPlace : FunctionData → ℕ → ℕ → ℕ → Type 0
AddUpToPlace f a b c =
    (a + b + c ≡ f.place) ⊎ ((a + b + c ≡ f.place + f.order) ⊎ (a + b + c ≡ f.place + 2 * f.order))

-- of such indices a is the least: with the next of them it passes
abbrev pub PassesAhead : FunctionData → ℕ → Type 0
PassesAhead f a = (b c : ℕ) → a ≤ b → b ≤ c → c < f.order → AddUpToPlace f a b c →
    PassesVertex f a b

-- the same if the other two have this sum
abbrev pub PassesWithSum : FunctionData → ℕ → ℕ → Type 0
PassesWithSum f a rest = (b c : ℕ) → a ≤ b → b ≤ c → c < f.order → b + c ≡ rest → PassesVertex f a b

-- the limits at the corners of the faces of a row but its vertices pass
abbrev pub PassesRow : FunctionData → ℕ → Type 0
PassesRow f a = HoldsBelow (PassesSquare f a) f.order

-- the limit of the slack at the corner of the square's face is not negative
abbrev pub IsNonnegativeIn : Square → FaceKind → ℕ → Type 0
IsNonnegativeIn s kind corner = pos 0 ≤ℤ get_or (limits_in s kind) corner (pos 0)

-- the points of the violation are multiples of 1/(order h) from 0 to below 1, and order h is at
-- most 2^62
abbrev pub HasGridPoints : FunctionData → Violation → Type 0
HasGridPoints f v = (h : ℕ) × (0 < h) × (f.order * h ≤ 2 ^ 62) × IsAtGridPoints f h v
