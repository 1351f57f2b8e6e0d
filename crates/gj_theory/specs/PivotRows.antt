-- Rows with different pivots (own).
use Rattle.std.specs.Prelude.{ℕ, ℤ, pos, ◌≡◌, ◌≢◌, ◌<◌, List}
use Rattle.gj_shape.specs.Elimination.{at_column}

-- n rows with n different pivots below n: each row is 0, in this sense, before its pivot, and of
-- this kind at it
pub record HavePivotsBy (is_zero is_pivot : ℤ → Type 0) (n : ℕ) (row : ℕ → List ℤ) (pivot : ℕ → ℕ) :
    Type 0 where
  pub within : (g : ℕ) → g < n → pivot g < n
  pub different : (g h : ℕ) → g < h → h < n → pivot g ≢ pivot h
  pub zero_before : (g c : ℕ) → g < n → c < pivot g → is_zero (at_column (row g) c)
  pub at_pivot : (g : ℕ) → g < n → is_pivot (at_column (row g) (pivot g))

-- of whole numbers: not 0 at their pivots
abbrev pub HavePivots : ℕ → (ℕ → List ℤ) → (ℕ → ℕ) → Type 0
HavePivots n row pivot = HavePivotsBy (λ x. x ≡ pos 0) (λ x. x ≢ pos 0) n row pivot
