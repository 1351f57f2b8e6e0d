-- The first index at which a property fails (own).
use Rattle.std.specs.Prelude.{ℕ, ◌<◌}

-- i is the first index below n at which the property fails
pub record IsFirstFailingIndex (P : ℕ → Type 0) (n i : ℕ) : Type 0 where
  pub within : i < n
  pub fails : P i → ⊥
  pub before : (j : ℕ) → j < i → P j

-- the property holds at each index below n
abbrev pub HoldsBelow : (ℕ → Type 0) → ℕ → Type 0
HoldsBelow P n = (i : ℕ) → i < n → P i
