-- Sets of uncovered intervals (Light on the Infinite Group Relaxation II).
use Rattle.std.specs.Prelude.{ℕ, ◌<◌, List, All, Contains}
use Rattle.gj_shape.specs.Cover.{AreJoined, IsCovered}

-- the intervals are below the order, none is covered, and each that is joined to one of them is one
-- of them
pub record AreUncoveredClasses (q : ℕ) (Tight : ℕ → ℕ → Type 0) (class : List ℕ) : Type 0 where
  pub within : All (λ a. a < q) class
  pub uncovered : All (λ a. IsCovered q Tight a → ⊥) class
  pub closed : (i j : ℕ) → Contains class i → j < q → AreJoined q Tight i j → Contains class j
