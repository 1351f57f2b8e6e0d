-- Sets of columns, in parts of 1,024 (own).
use Rattle.std.specs.Prelude.{ℕ, ℤ, pos, ◌≡◌, ◌*◌, ◌/◌, ◌%◌, ◌<◌, ◌≤◌, ◌^◌, Bool, true, false, List, length, get_or}
use Rattle.gj_shape.specs.Elimination.{at_column}
use Rattle.gj_loops.specs.IndexSets.{has, no_set}
use Rattle.gj_loops.specs.declared.index_set.IndexSet.{IndexSet}

-- whether the column is in the set
abbrev pub has_column : List IndexSet → ℕ → Bool
has_column parts c = has (get_or parts (c / 1024) no_set) (c % 1024)

-- c is the least column in the set that is not below this one
pub record IsFirstColumn (parts : List IndexSet) (from c : ℕ) : Type 0 where
  pub behind : from ≤ c
  pub found : has_column parts c ≡ true
  pub before : (k : ℕ) → from ≤ k → k < c → has_column parts k ≡ false

-- the set has columns of the row alone, and the row is 0 at all others
pub record IsSupport (parts : List IndexSet) (row : List ℤ) : Type 0 where
  pub room : length row ≤ 1024 * length parts
  pub few : length parts < 2 ^ 32
  pub within : (k : ℕ) → has_column parts k ≡ true → k < length row
  pub zero : (k : ℕ) → has_column parts k ≡ false → at_column row k ≡ pos 0
