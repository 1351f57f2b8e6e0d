-- Tables that rise by one step on runs of places, and tables that are additive where the table of a
-- function is (Light on the Infinite Group Relaxation I and II; Equivariant Perturbation I).
use Rattle.std.specs.Prelude.{ℕ, ℤ, ◌≡◌, ◌+◌, ◌*◌, ◌<◌, ◌≤◌, ◌+ℤ◌}
use Rattle.gj_shape.specs.FunctionData.{FunctionData}
use Rattle.gj_shape.specs.Table.{table}

-- the table rises by t from each of the m places from a on to the next
abbrev pub HasStep : (ℕ → ℤ) → ℕ → ℕ → ℤ → Type 0
HasStep p a m t = (i : ℕ) → i < m → p (a + i + 1) ≡ p (a + i) +ℤ t

-- on the grid of order m times the function's, the table rises by t all along the interval a
abbrev pub HasStepOn : (ℕ → ℤ) → ℕ → ℕ → ℤ → Type 0
HasStepOn p m a t = HasStep p (a * m) m t

-- the table is additive on the closed lower triangle with the corner (a, b) and sides of length m
abbrev pub IsAdditiveOnLower : (ℕ → ℤ) → ℕ → ℕ → ℕ → Type 0
IsAdditiveOnLower p a b m = (i j : ℕ) → i + j ≤ m → p (a + i) +ℤ p (b + j) ≡ p (a + b + i + j)

-- the table is additive on the closed upper triangle of the square with the corner (a, b) and sides
-- of length m
abbrev pub IsAdditiveOnUpper : (ℕ → ℤ) → ℕ → ℕ → ℕ → Type 0
IsAdditiveOnUpper p a b m = (i j : ℕ) → i ≤ m → j ≤ m → m ≤ i + j →
    p (a + i) +ℤ p (b + j) ≡ p (a + b + i + j)

-- the table p has the period n, and is additive at each pair that is tight for the table t
pub record IsAdditiveAtTight (t : ℕ → ℤ) (n : ℕ) (p : ℕ → ℤ) : Type 0 where
  pub has_period : (i : ℕ) → p (i + n) ≡ p i
  pub additive : (i j : ℕ) → t i +ℤ t j ≡ t (i + j) → p i +ℤ p j ≡ p (i + j)

-- the same for the table on the grid of order m times the function's
abbrev pub IsAdditiveOnGrid : FunctionData → ℕ → (ℕ → ℤ) → Type 0
IsAdditiveOnGrid f m p = IsAdditiveAtTight (table f m) (f.order * m) p
