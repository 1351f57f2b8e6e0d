-- Tables by the values of one period: what is asked of these (own).
use Rattle.std.specs.Prelude.{ℕ, ℤ, pos, ◌≡◌, ◌+◌, ◌-◌, ◌*◌, ◌<◌, ◌≤◌, ◌+ℤ◌, ◌≤ℤ◌, List, length, slice_index_or}
use Rattle.gj_shape.specs.FunctionData.{at}
use Rattle.gj_shape.specs.Limits.{greatest_halves_order, greatest_halves_scale}

-- the values lie from 0 to the scale, which is at most 2^124; there are at most 4,000, and the
-- place is one of theirs
pub record IsTableInRange (values : List ℤ) (place : ℕ) (scale : ℤ) : Type 0 where
  pub place_below : place < length values
  pub few : length values ≤ greatest_halves_order
  pub low : (i : ℕ) → pos 0 ≤ℤ at values i
  pub high : (i : ℕ) → at values i ≤ℤ scale
  pub scale_high : scale ≤ℤ pos greatest_halves_scale

-- the value at i and that at the place opposite to it add up to the scale
abbrev pub IsSymmetricIn : List ℤ → ℕ → ℤ → ℕ → Type 0
IsSymmetricIn values place scale i = at values i +ℤ at values (place + (length values - i)) ≡ scale

abbrev pub IsSymmetricList : List ℤ → ℕ → ℤ → Type 0
IsSymmetricList values place scale = (i : ℕ) → i < length values →
    IsSymmetricIn values place scale i

-- the values at i and j add up to no less than the value at i + j
abbrev pub IsSubadditivePair : List ℤ → ℕ → ℕ → Type 0
IsSubadditivePair values i j = at values (i + j) ≤ℤ (at values i +ℤ at values j)

-- for each j from i on at which the third index with this total is no less than j
abbrev pub IsSubadditiveUpTo : List ℤ → ℕ → ℕ → Type 0
IsSubadditiveUpTo values total i =
    (j k : ℕ) → i ≤ j → j ≤ k → k < length values → i + j + k ≡ total → IsSubadditivePair values i j

-- for each i
abbrev pub HasSubadditiveTotal : List ℤ → ℕ → Type 0
HasSubadditiveTotal values total = (i : ℕ) → i < length values → IsSubadditiveUpTo values total i

-- for each total of three indices that is the place modulo the length
abbrev pub HasSubadditiveTotals : List ℤ → ℕ → Type 0
HasSubadditiveTotals values place =
    HasSubadditiveTotal values place × HasSubadditiveTotal values (place + length values)
    × HasSubadditiveTotal values (place + 2 * length values)

-- for all i and j
abbrev pub IsSubadditiveList : List ℤ → Type 0
IsSubadditiveList values = (i j : ℕ) → i < length values → j < length values →
    IsSubadditivePair values i j

-- there are entries of two periods of n numbers, none of them negative
pub record HaveTwoPeriods {E : Type 0} (number : E → ℤ) (entries : List E) (n : ℕ) : Type 0 where
  pub room : 2 * n ≤ length entries
  pub low : (i : ℕ) (e : E) → i < 2 * n → pos 0 ≤ℤ number (slice_index_or entries i e)

-- the first entries are the values of two periods, none of them negative
pub record AreTwoPeriods {E : Type 0} (number : E → ℤ) (entries : List E) (values : List ℤ) :
    Type 0 where
  pub room : 2 * length values ≤ length entries
  pub same : (i : ℕ) (e : E) → i < 2 * length values →
      number (slice_index_or entries i e) ≡ at values i
  pub low : (i : ℕ) → pos 0 ≤ℤ at values i
