-- Sets of indices (own).
use Rattle.std.specs.Prelude.{ℕ, zero, suc, ◌≡◌, ◌+◌, ◌/◌, ◌%◌, ◌<◌, ◌≤◌, List, [], Bool, true, false, ◌==◌, slice_index, if◌then◌else◌}
use Rattle.std.specs.Int.{bit_at}
use Rattle.gj_loops.specs.declared.index_set.IndexSet.{IndexSet}

-- bit i % 64 of word i / 64
abbrev pub bit_of : List ℕ → ℕ → Bool
bit_of words i = bit_at (slice_index words (i / 64)) (i % 64) == 1

-- whether the index is in the set
unfoldable pub has : IndexSet → ℕ → Bool
has set i = bit_of set.words i

-- a set without words, if none is meant
abbrev pub no_set : IndexSet
no_set = record { words = [] }

-- k is the least index in the set that is not below the start
pub record IsFirst (set : IndexSet) (start k : ℕ) : Type 0 where
  pub behind : start ≤ k
  pub within : k < 1024
  pub found : has set k ≡ true
  pub before : (j : ℕ) → start ≤ j → j < k → has set j ≡ false

-- at how many numbers below n the test is true
unfoldable pub count_below : (ℕ → Bool) → ℕ → ℕ
count_below p zero = 0
count_below p (suc n) = (if p n then 1 else 0) + count_below p n
