-- The slacks at the corners of a triangle of the complex, which give those on finer grids (own).
use Rattle.std.specs.Prelude.{ℕ, ℤ, pos, ◌*ℤ◌, ◌<ℤ◌, ◌≤ℤ◌, List, All, Contains}

-- u is at most m times each positive number among the slacks, and beside a slack 0 at most each
-- positive number
pub record IsBelowCorners (m u : ℕ) (slacks : List ℤ) : Type 0 where
  pub each : All (λ x. pos 0 <ℤ x → pos u ≤ℤ (pos m *ℤ x)) slacks
  pub beside_zero : Contains slacks (pos 0) → All (λ x. pos 0 <ℤ x → pos u ≤ℤ x) slacks
