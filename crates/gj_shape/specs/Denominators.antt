-- The least common denominator of a list of fractions, and what further fractions do to it (own).
use Rattle.std.specs.Prelude.{ℕ, ◌<◌, ◌≤◌, List, ◌++◌, All, unsigned_abs}
use Rattle.std.specs.Int.{◌∣◌}
use Rattle.gj_frac.specs.declared.Frac.{Frac}
use Rattle.gj_frac.specs.Fraction.{denominator, IsAtMost}
use Rattle.gj_lemmas.specs.Divisors.{IsLcm}
use Rattle.gj_lemmas.specs.FirstThatFails.{IsFirstFailing}
use Rattle.gj_shape.specs.Limits.{greatest_value, denominator_bound}
use Rattle.gj_shape.specs.Given.{IsSmall, IsLeastCommonDenominator, AreWithinBounds, IsTooLarge, IsTooFine}
use Rattle.gj_shape.specs.declared.faults.ShapeFault.{ShapeFault}
use Rattle.gj_shape.specs.declared.faults.ShapeFault.TheVariants as fault
use Rattle.gj_shape.specs.declared.faults.FractionFault.{FractionFault}
use Rattle.gj_shape.specs.declared.faults.FractionFault.TheVariants as refusal

-- all fractions are at most this number in absolute value, and m is their least common denominator,
-- from 1 to 2^31 - 1
pub record AreWithinOver (limit : ℕ) (xs : List Frac) (m : ℕ) : Type 0 where
  pub small : All (IsAtMost limit) xs
  pub low : 1 ≤ m
  pub high : m < denominator_bound
  pub least : IsLeastCommonDenominator xs m

-- the same of the values and limits of a function
abbrev pub AreWithinBoundsOver : List Frac → ℕ → Type 0
AreWithinBoundsOver xs m = AreWithinOver greatest_value xs m

-- fractions with the least common denominator `scale` have no common denominator from 1 to 2^31 - 1
-- with x
abbrev pub HasNoCommonWith : ℕ → Frac → Type 0
HasNoCommonWith scale x = (m : ℕ) → 1 ≤ m → m < denominator_bound → scale ∣ m →
    unsigned_abs (denominator x) ∣ m → ⊥

-- x is at most this number in absolute value, and m is the least common denominator of fractions
-- with the least common denominator `scale` and of x
pub record Extends (limit scale : ℕ) (x : Frac) (m : ℕ) : Type 0 where
  pub small : IsAtMost limit x
  pub least : IsLcm scale (unsigned_abs (denominator x)) m
  pub high : m < denominator_bound

-- the same for more fractions
abbrev pub ExtendsBy : ℕ → List Frac → ℕ → Type 0
ExtendsBy scale ys m = (xs : List Frac) → AreWithinBoundsOver xs scale →
    AreWithinBoundsOver (xs ++ ys) m

-- why the fraction x does not go with the least common denominator of those before it
abbrev pub IsFractionRefused : ℕ → Frac → FractionFault → Type 0
IsFractionRefused scale x refusal.Large = IsSmall x → ⊥
IsFractionRefused scale x refusal.Fine = IsSmall x × HasNoCommonWith scale x

-- x is the first of the fractions ys that fails a test behind the fractions xs, and `passed` stands
-- before it
abbrev pub IsFirstRefused : List Frac → List Frac → List Frac → Frac → Type 0
IsFirstRefused xs ys passed x = IsFirstFailing (λ zs. AreWithinBounds (xs ++ zs)) ys passed x

-- why the fractions ys cannot follow xs: the first that fails a test is too large, or it is not,
-- and leaves no common denominator from 1 to 2^31 - 1
abbrev pub IsFractionRefusal : List Frac → List Frac → FractionFault → Type 0
IsFractionRefusal xs ys refusal.Large = (passed : List Frac) × (x : Frac)
    × IsFirstRefused xs ys passed x × (IsSmall x → ⊥)
IsFractionRefusal xs ys refusal.Fine = (passed : List Frac) × (x : Frac)
    × IsFirstRefused xs ys passed x × IsSmall x

-- the same behind any fractions with the least common denominator `scale`
abbrev pub IsRefusedBehind : ℕ → List Frac → FractionFault → Type 0
IsRefusedBehind scale ys e = (xs : List Frac) → AreWithinBoundsOver xs scale →
    IsFractionRefusal xs ys e

-- the fault of lists with a fraction at fault at the index
abbrev pub fault_at : FractionFault → ℕ → ShapeFault
fault_at refusal.Large i = fault.TooLarge i
fault_at refusal.Fine i = fault.TooFine i

-- the first fraction that fails a test is too large, or leaves no common denominator
abbrev pub IsFaultIn : List Frac → List Frac → List Frac → ShapeFault → Type 0
IsFaultIn left value right (fault.TooLarge i) = IsTooLarge left value right i
IsFaultIn left value right (fault.TooFine i) = IsTooFine left value right i
IsFaultIn left value right fault.Order = ⊥
IsFaultIn left value right fault.Place = ⊥
IsFaultIn left value right fault.Count = ⊥
IsFaultIn left value right (fault.Memory e) = ⊥
