-- The bends of a table: the indices at which its values do not lie on a line (own).
use Rattle.std.specs.Prelude.{ℕ, ℤ, ◌≡◌, ◌⊎◌, ◌+◌, ◌-◌, ◌<◌, ◌≤◌, ◌+ℤ◌, List, length, slice_index_or}
use Rattle.gj_shape.specs.FunctionData.{at}
use Rattle.gj_check_minimal.specs.Tables.{IsSubadditivePair}
use Rattle.gj_check_minimal.specs.declared.bends.Bends.{Bends}

-- the values at i, i + 1 and i + 2 lie on a line
abbrev pub IsStraight : List ℤ → ℕ → Type 0
IsStraight values i = at values i +ℤ at values (i + 2) ≡ at values (i + 1) +ℤ at values (i + 1)

-- the p-th of the bends
abbrev pub bend : Bends → ℕ → ℕ
bend b p = slice_index_or b.indices p 0

-- there is room for the bends, and they are indices below n
pub record AreIndices (n : ℕ) (b : Bends) : Type 0 where
  pub room : b.count ≤ length b.indices
  pub below : (p : ℕ) → p < b.count → bend b p < n

-- the index is a bend
abbrev pub IsBend : Bends → ℕ → Type 0
IsBend b i = (p : ℕ) × (p < b.count) × (bend b p ≡ i)

-- 0 is one, and each index below the length at which the values do not lie on a line
pub record AreBends (values : List ℤ) (b : Bends) : Type 0 where
  pub start : IsBend b 0
  pub rest : (i : ℕ) → i + 1 < length values → IsStraight values i ⊎ IsBend b (i + 1)

-- the pairs pass of this index and each bend, and of this index and that whose sum with it is a
-- bend and the length
abbrev pub PassesAtBends : List ℤ → Bends → ℕ → Type 0
PassesAtBends values b i =
    (p : ℕ) → p < b.count → IsSubadditivePair values i (bend b p)
    × IsSubadditivePair values i (length values + bend b p - i)

-- those of each bend
abbrev pub PassAtBends : List ℤ → Bends → Type 0
PassAtBends values b = (p : ℕ) → p < b.count → PassesAtBends values b (bend b p)
