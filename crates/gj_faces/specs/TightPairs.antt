-- Tight pairs, row by row (own).
use Rattle.std.specs.Prelude.{ℕ, ◌≡◌, ◌↔◌, ◌%◌, ◌<◌, ◌≤◌, IsTrue, get_or}
use Rattle.gj_loops.specs.IndexSets.{has, no_set}
use Rattle.gj_shape.specs.FunctionData.{FunctionData}
use Rattle.gj_shape.specs.Additive.{IsTight}
use Rattle.gj_faces.specs.declared.tight_pairs.TightPairs.{TightPairs}

-- the pair is among them, indices modulo the order
unfoldable pub IsTightIn : TightPairs → ℕ → ℕ → Type 0
IsTightIn pairs i j =
    IsTrue (has (get_or pairs.rows.items (i % pairs.order) no_set) (j % pairs.order))

-- they are the tight pairs of the function
pub record AreTightPairsOf (f : FunctionData) (pairs : TightPairs) : Type 0 where
  pub order : pairs.order ≡ f.order
  pub tell : (i j : ℕ) → IsTightIn pairs i j ↔ IsTight f i j

-- b is the least index from the start on for which (a, b) is among them
pub record IsNextTight (pairs : TightPairs) (a start b : ℕ) : Type 0 where
  pub behind : start ≤ b
  pub within : b < pairs.order
  pub tight : IsTightIn pairs a b
  pub first : (k : ℕ) → start ≤ k → k < b → IsTightIn pairs a k → ⊥
