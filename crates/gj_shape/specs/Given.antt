-- Which function three lists of fractions give, and why they give none (own).
use Rattle.std.specs.Prelude.{ℕ, ℤ, pos, ◌≡◌, ◌<◌, ◌≤◌, ◌/◌, ◌*ℤ◌, List, [], ◌∷◌, length, map, slice_index_or, All, unsigned_abs}
use Rattle.std.specs.Int.{◌∣◌}
use Rattle.gj_frac.specs.declared.Frac.{Frac}
use Rattle.gj_frac.specs.Fraction.{numerator, denominator, IsRatio, IsAtMost}
use Rattle.gj_lemmas.specs.FirstThatFails.{IsFirstFailing}
use Rattle.gj_shape.specs.Limits.{greatest_order, greatest_value, denominator_bound}
use Rattle.gj_shape.specs.FunctionData.{FunctionData, IsWithinBounds}
use Rattle.gj_shape.specs.declared.faults.ShapeFault.{ShapeFault}
use Rattle.gj_shape.specs.declared.faults.ShapeFault.TheVariants as fault

-- all fractions in the order in which they are tested: at each index the left limit, the value, the
-- right limit
abbrev pub in_order : List Frac → List Frac → List Frac → List Frac
in_order (l ∷ ls) (v ∷ vs) (r ∷ rs) = l ∷ v ∷ r ∷ in_order ls vs rs
in_order ls vs rs = []

-- at most 2^20 in absolute value
abbrev pub IsSmall : Frac → Type 0
IsSmall x = IsAtMost greatest_value x

-- d is a common denominator
abbrev pub IsCommonDenominator : List Frac → ℕ → Type 0
IsCommonDenominator xs d = All (λ x. unsigned_abs (denominator x) ∣ d) xs

-- c is the least common denominator of the fractions
pub record IsLeastCommonDenominator (xs : List Frac) (c : ℕ) : Type 0 where
  pub common : IsCommonDenominator xs c
  pub least : (d : ℕ) → IsCommonDenominator xs d → c ∣ d

-- there is a common denominator from 1 to 2^31 - 1
abbrev pub HasCommonDenominator : List Frac → Type 0
HasCommonDenominator xs = (d : ℕ) × (1 ≤ d) × (d < denominator_bound) × IsCommonDenominator xs d

-- all are at most this number in absolute value and have a common denominator from 1 to 2^31 - 1
pub record AreWithin (limit : ℕ) (xs : List Frac) : Type 0 where
  pub small : All (IsAtMost limit) xs
  pub common : HasCommonDenominator xs

-- all are small and have such a common denominator
abbrev pub AreWithinBounds : List Frac → Type 0
AreWithinBounds xs = AreWithin greatest_value xs

-- x stands at the index and is the first fraction with which those up to it are not within bounds
pub record IsFirstFractionAtFault (left value right : List Frac) (index : ℕ) (before : List Frac)
    (x : Frac) : Type 0 where
  pub first : IsFirstFailing AreWithinBounds (in_order left value right) before x
  pub index_is : index ≡ length before / 3

-- the first fraction that fails a test is greater than 2^20 in absolute value
abbrev pub IsTooLarge : List Frac → List Frac → List Frac → ℕ → Type 0
IsTooLarge left value right i =
    (before : List Frac) × (x : Frac) × IsFirstFractionAtFault left value right i before x
    × (IsSmall x → ⊥)

-- the first fraction that fails a test is not, and so leaves no common denominator from 1 to 2^31 -
-- 1
abbrev pub IsTooFine : List Frac → List Frac → List Frac → ℕ → Type 0
IsTooFine left value right i =
    (before : List Frac) × (x : Frac) × IsFirstFractionAtFault left value right i before x
    × IsSmall x

abbrev pub IsOrder : ℕ → Type 0
IsOrder q = (2 ≤ q) × (q ≤ greatest_order)

abbrev pub IsPlace : ℕ → ℕ → Type 0
IsPlace q k = (1 ≤ k) × (k < q)

abbrev pub HaveLength : List Frac → List Frac → List Frac → ℕ → Type 0
HaveLength left value right q = (length left ≡ q) × (length value ≡ q) × (length right ≡ q)

-- why there is no function of this order and place with these lists: the first test that fails
abbrev pub HasFault : ℕ → ℕ → List Frac → List Frac → List Frac → ShapeFault → Type 0
HasFault q k left value right fault.Order = IsOrder q → ⊥
HasFault q k left value right fault.Place = IsOrder q × (IsPlace q k → ⊥)
HasFault q k left value right fault.Count = IsOrder q × IsPlace q k
    × (HaveLength left value right q → ⊥)
HasFault q k left value right (fault.TooLarge i) = IsOrder q × IsPlace q k
    × HaveLength left value right q × IsTooLarge left value right i
HasFault q k left value right (fault.TooFine i) = IsOrder q × IsPlace q k
    × HaveLength left value right q × IsTooFine left value right i
HasFault q k left value right (fault.Memory e) = Unit {0}

-- the numerator of a fraction over a multiple of its denominator
abbrev pub numerator_over : ℕ → Frac → ℤ
numerator_over scale x = numerator x *ℤ pos (scale / unsigned_abs (denominator x))

-- the function of this order and place with these limits and values
pub record IsGivenBy (q k : ℕ) (left value right : List Frac) (f : FunctionData) : Type 0 where
  pub order : f.order ≡ q
  pub place : f.place ≡ k
  pub common : IsCommonDenominator (in_order left value right) f.scale
  pub left_is : f.left ≡ map (numerator_over f.scale) left
  pub value_is : f.value ≡ map (numerator_over f.scale) value
  pub right_is : f.right ≡ map (numerator_over f.scale) right
  pub within : IsWithinBounds f

-- ---- lists that are made of other functions

-- the fraction at each index i is t i over s
abbrev pub AreOver : (ℕ → ℤ) → ℕ → List Frac → Type 0
AreOver t s xs = (i : ℕ) (x : Frac) → i < length xs → IsRatio (slice_index_or xs i x) (t i) (pos s)

-- the lists of which P holds leave no common denominator up to 2^31 - 1 first at i, or there was no
-- memory
abbrev pub IsTooFineOf : (List Frac → List Frac → List Frac → Type 0) → ShapeFault → Type 0
IsTooFineOf P (fault.TooFine i) = (left : List Frac) × (value : List Frac) × (right : List Frac)
    × P left value right × IsTooFine left value right i
IsTooFineOf P (fault.Memory e) = Unit {0}
IsTooFineOf P fault.Order = ⊥
IsTooFineOf P fault.Place = ⊥
IsTooFineOf P fault.Count = ⊥
IsTooFineOf P (fault.TooLarge i) = ⊥

-- the fault is want of memory
abbrev pub IsMemory : ShapeFault → Type 0
IsMemory fault.Order = ⊥
IsMemory fault.Place = ⊥
IsMemory fault.Count = ⊥
IsMemory (fault.TooLarge i) = ⊥
IsMemory (fault.TooFine i) = ⊥
IsMemory (fault.Memory e) = Unit {0}
