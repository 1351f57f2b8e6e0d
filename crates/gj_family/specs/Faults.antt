-- Why a family has no function: the first test that fails, or want of memory.
use Rattle.std.specs.Prelude.{ℕ, pos, ◌<◌, ◌≤◌, ◌<ℤ◌, List, Bool, length, unsigned_abs}
use Rattle.gj_frac.specs.declared.Frac.{Frac}
use Rattle.gj_frac.specs.Fraction.{numerator, denominator, IsInside}
use Rattle.gj_shape.specs.Limits.{greatest_order}
use Rattle.gj_shape.specs.Given.{IsPlace}
use Rattle.gj_family.specs.Signs.{rises, falls, height}
use Rattle.gj_family.specs.declared.faults.FamilyFault.{FamilyFault}
use Rattle.gj_family.specs.declared.faults.FamilyFault.TheVariants as fault

-- the order of a function with this f, and the place of f
abbrev pub order_of : Frac → ℕ
order_of f = unsigned_abs (denominator f)

abbrev pub place_of : Frac → ℕ
place_of f = unsigned_abs (numerator f)

-- why there is no function with this f
abbrev pub HasFamilyFault : Frac → FamilyFault → Type 0
HasFamilyFault f fault.BadF = IsInside f → ⊥
HasFamilyFault f fault.TooManyPieces = IsInside f × (greatest_order < order_of f)
HasFamilyFault f fault.BadSigns = ⊥
HasFamilyFault f fault.NoSlopes = ⊥
HasFamilyFault f (fault.Memory e) = Unit {0}

-- there is none but want of memory
abbrev pub HasNoFamilyFault : Frac → Type 0
HasNoFamilyFault f = IsInside f × (order_of f ≤ greatest_order)

-- some rise and some fall, and the first k of them lead upwards
abbrev pub HaveSlopes : ℕ → List Bool → Type 0
HaveSlopes k signs = (0 < rises signs) × (0 < falls signs) × (pos 0 <ℤ height signs k)

-- why there is no function with two slopes with these signs and f at the place k
abbrev pub HasTwoSlopeFault : ℕ → List Bool → FamilyFault → Type 0
HasTwoSlopeFault k signs fault.TooManyPieces = greatest_order < length signs
HasTwoSlopeFault k signs fault.BadSigns = length signs < 2
HasTwoSlopeFault k signs fault.BadF = (2 ≤ length signs) × (length signs ≤ greatest_order)
    × (IsPlace (length signs) k → ⊥)
HasTwoSlopeFault k signs fault.NoSlopes =
    (2 ≤ length signs) × (length signs ≤ greatest_order) × IsPlace (length signs) k
    × (HaveSlopes k signs → ⊥)
HasTwoSlopeFault k signs (fault.Memory e) = Unit {0}

-- there is none but want of memory
abbrev pub HasNoTwoSlopeFault : ℕ → List Bool → Type 0
HasNoTwoSlopeFault k signs = (2 ≤ length signs) × (length signs ≤ greatest_order)
    × IsPlace (length signs) k × HaveSlopes k signs
