-- The first two places at which a table is not subadditive (own).
use Rattle.std.specs.Prelude.{ℕ, ◌+◌, ◌<◌, ◌+ℤ◌, ◌<ℤ◌}
use Rattle.gj_shape.specs.FirstViolation.{IsLeastFrom}
use Rattle.gj_shape.specs.FunctionData.{FunctionData, at}

-- the values at a/order and b/order add up to less than that at their sum
abbrev pub IsSuperadditivePair : FunctionData → ℕ → ℕ → Type 0
IsSuperadditivePair f a b = (at f.value a +ℤ at f.value b) <ℤ at f.value (a + b)

-- a is the least place with such a b, and b the least for a, both below the order
pub record IsFirstPair (f : FunctionData) (a b : ℕ) : Type 0 where
  pub first : IsLeastFrom 0 (λ i. (j : ℕ) × (j < f.order) × IsSuperadditivePair f i j) a
  pub second : IsLeastFrom 0 (IsSuperadditivePair f a) b
  pub within : (a < f.order) × (b < f.order)
