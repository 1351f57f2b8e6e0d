-- What one step adds to a problem on the grid (own).
use Rattle.std.specs.Prelude.{◌≡◌, ℕ, ℤ, pos, negsuc, Bool, true, false, List, length}
use Rattle.gj_frac.specs.declared.Frac.{Frac}
use Rattle.gj_problem.specs.declared.problem.Inequality.{Inequality}
use Rattle.gj_problem.specs.declared.problem.Problem.{Problem}
use Rattle.gj_problem.specs.declared.problem.Sense.TheVariants.{AtLeast}
use Rattle.gj_problem.specs.Aggregates.{Weighted, weighted}
use Rattle.gj_problem.specs.Steps.{IsMadeNext}
use Rattle.gj_problem.specs.RoundedCuts.{IsRoundedCut, IsFirstFreeEntry}
use Rattle.gj_relaxed.specs.RelaxedProblems.{IsUnnamed, IsRelaxedConstraint, AreRelaxed, IsFreeSide, IsFirstFreeSide}
use Rattle.gj_relaxed.specs.declared.sides.Relaxed.{Relaxed}
use Rattle.gj_relaxed.specs.declared.sides.Side.{Side}
use Rattle.gj_relaxed.specs.declared.sides.Side.TheVariants as side
use Rattle.gj_relaxed.specs.declared.sides.Sides.{Sides}
use Rattle.gj_relaxed.specs.declared.sides.Sides.TheVariants as sides

-- -1 if signs are turned, else 1
abbrev pub sign_of : Bool → ℤ
sign_of true = negsuc 0
sign_of false = pos 1

-- the rounded inequality as a constraint with this multiplier, or its first free entry
abbrev pub IsRoundedSide : Problem → ℕ → Inequality → Frac → Side → Type 0
IsRoundedSide p n q multiplier (side.Made c m) = (r : Inequality) × IsRoundedCut p n q r
    × (c ≡ record { entries = r.entries; sense = AtLeast; right = r.right }) × (m ≡ multiplier)
IsRoundedSide p n q multiplier (side.Free j) = IsFirstFreeEntry p n q.entries j

-- the constraint relaxed, or the column that keeps it from the grid
abbrev pub IsRelaxedOrFree : Problem → ℕ → Weighted → Side → Type 0
IsRelaxedOrFree p n w (side.Made c m) =
    IsRelaxedConstraint p n w (record { multiplier = m; constraint = c })
IsRelaxedOrFree p n w (side.Free j) = IsFreeSide p n w j

-- a multiplier for each constraint
abbrev pub HasMultipliers : Relaxed → Type 0
HasMultipliers made = length made.multipliers.items ≡ length made.constraints.items

abbrev pub weighted_of : Relaxed → List Weighted
weighted_of made = weighted made.multipliers.items made.constraints.items

-- the constraint is not in the sum, or one more is made of it
abbrev pub IsNextSide : Problem → ℕ → Weighted → Relaxed → Relaxed → Type 0
IsNextSide p n w old new = HasMultipliers new
    × IsMadeNext (IsUnnamed w) (IsRelaxedConstraint p n w) (weighted_of old) (weighted_of new)

-- all constraints are relaxed, or the first that cannot be has this column
abbrev pub AreRelaxedOrFree : ℕ → Problem → List Frac → Sides → Type 0
AreRelaxedOrFree n p multipliers (sides.All made) = HasMultipliers made
    × AreRelaxed p n (weighted multipliers p.constraints) (weighted_of made)
AreRelaxedOrFree n p multipliers (sides.Free j) = IsFirstFreeSide n p multipliers j
