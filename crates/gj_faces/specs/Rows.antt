-- Rows of indices below an order (own).
use Rattle.std.specs.Prelude.{ℕ, ◌≡◌, ◌↔◌, ◌<◌, ◌≤◌, List, false, IsTrue, length, get_or}
use Rattle.gj_loops.specs.IndexSets.{has, no_set}
use Rattle.gj_loops.specs.declared.index_set.IndexSet.{IndexSet}
use Rattle.gj_shape.specs.Additive.{IsTight}
use Rattle.gj_shape.specs.FunctionData.{FunctionData}

-- no row has an index from the order on
abbrev pub AreSetsWithin : List IndexSet → ℕ → Type 0
AreSetsWithin rows q = (a b : ℕ) → q ≤ b → has (get_or rows a no_set) b ≡ false

-- the set has the indices below the order that are tight with i, and no others
abbrev pub TellsRow : FunctionData → ℕ → IndexSet → Type 0
TellsRow f i row = (b : ℕ) → IsTrue (has row b) ↔ ((b < f.order) × IsTight f i b)

-- there are n rows, those of the indices below n
pub record AreRows (f : FunctionData) (n : ℕ) (rows : List IndexSet) : Type 0 where
  pub count : length rows ≡ n
  pub tell : (a : ℕ) → a < n → TellsRow f a (get_or rows a no_set)
