-- Problems whose data are taken to the grid of all k/n, so that each feasible point stays feasible
-- (own; Cook, Dash, Fukasawa and Goycoolea 2009 round so in floating point).
use Rattle.std.specs.Prelude.{◌≡◌, ◌⊎◌, ℕ, ℤ, pos, negsuc, true, false, Option, Some, None, List, ◌∷◌, ◌++◌, length, All}
use Rattle.std.specs.List.{AllZip}
use Rattle.gj_frac.specs.declared.Frac.{Frac}
use Rattle.gj_frac.specs.Fraction.{numerator}
use Rattle.gj_fields.specs.Rational.{whole, rational, ◌*ℚ◌, neg_ℚ}
use Rattle.gj_problem.specs.declared.problem.Column.{Column}
use Rattle.gj_problem.specs.declared.problem.Constraint.{Constraint}
use Rattle.gj_problem.specs.declared.problem.Inequality.{Inequality}
use Rattle.gj_problem.specs.declared.problem.Problem.{Problem}
use Rattle.gj_problem.specs.declared.problem.Sense.{Sense}
use Rattle.gj_problem.specs.declared.problem.Sense.TheVariants.{AtMost, AtLeast, Equal}
use Rattle.gj_problem.specs.Aggregates.{AreMadeOf, Weighted, weighted}
use Rattle.gj_problem.specs.Moves.{IsGridValue, IsBelowOnGrid}
use Rattle.gj_problem.specs.Rows.{IsMultiple}
use Rattle.gj_problem.specs.RoundedCuts.{IsRoundedCut, IsFirstFreeEntry, IsWideTimes, IsWideRounding}
use Rattle.gj_problem.specs.WideRows.{numbers_of}
use Rattle.gj_relaxed.specs.declared.problems.RelaxedProblem.{RelaxedProblem}
use Rattle.gj_relaxed.specs.declared.problems.RelaxedProblem.TheVariants as relaxed

-- ---- columns

-- the bound goes down to the grid
abbrev pub IsLowered : ℕ → Option Frac → Option Frac → Type 0
IsLowered n None b = b ≡ None
IsLowered n (Some x) b = (y : Frac) × (b ≡ Some y) × IsBelowOnGrid n (rational x) (rational y)

-- it goes up to it
abbrev pub IsLifted : ℕ → Option Frac → Option Frac → Type 0
IsLifted n None b = b ≡ None
IsLifted n (Some x) b =
    (y : Frac) × (b ≡ Some y) × IsBelowOnGrid n (neg_ℚ (rational x)) (neg_ℚ (rational y))

-- a whole column stays as it is, and the bounds of a continuous one go outwards
pub record IsRelaxedColumn (n : ℕ) (c c' : Column) : Type 0 where
  pub is_whole : c.is_whole ≡ true → c' ≡ c
  pub continuous : c.is_whole ≡ false → c'.is_whole ≡ false
  pub lower : c.is_whole ≡ false → IsLowered n c.lower c'.lower
  pub upper : c.is_whole ≡ false → IsLifted n c.upper c'.upper

-- ---- constraints

-- all numbers of the constraint are on the grid
abbrev pub IsOnGrid : ℕ → Constraint → Type 0
IsOnGrid n c = All (λ x. IsGridValue n (rational x)) (numbers_of c.right c.entries)

-- the sign that makes "at least" of a constraint; an equation takes that of its multiplier
abbrev pub side_of : Sense → ℤ → ℤ
side_of AtMost m = negsuc 0
side_of AtLeast m = pos 1
side_of Equal (pos m) = pos 1
side_of Equal (negsuc m) = negsuc 0

abbrev pub side : Weighted → ℤ
side w = side_of w.constraint.sense (numerator w.multiplier)

-- the constraint, times its sign, as an inequality
abbrev pub IsSide : Weighted → Inequality → Type 0
IsSide w q = IsMultiple (whole (side w)) w.constraint.entries w.constraint.right q

-- the inequality of the constraint is rounded by the bounds of its columns, and its multiplier has
-- the sign that makes of it what it was
pub record IsRelaxedSide (p : Problem) (n : ℕ) (w w' : Weighted) : Type 0 where
  pub off_grid : IsOnGrid n w.constraint → ⊥
  pub given : Inequality
  pub given_is : IsSide w given
  pub rounded : Inequality
  pub rounded_is : IsRoundedCut p n given rounded
  pub constraint_is : w'.constraint ≡ record {
    entries = rounded.entries;
    sense = AtLeast;
    right =
        rounded.right;
  }
  pub multiplier_is : rational w'.multiplier ≡ whole (side w) *ℚ rational w.multiplier

-- a constraint on the grid stays as it is
abbrev pub IsRelaxedConstraint : Problem → ℕ → Weighted → Weighted → Type 0
IsRelaxedConstraint p n w w' = (IsOnGrid n w.constraint × (w' ≡ w)) ⊎ IsRelaxedSide p n w w'

-- a constraint that is not in the sum
abbrev pub IsUnnamed : Weighted → Type 0
IsUnnamed w = numerator w.multiplier ≡ pos 0

-- the constraints that are in the sum, each relaxed
abbrev pub AreRelaxed : Problem → ℕ → List Weighted → List Weighted → Type 0
AreRelaxed p n = AreMadeOf IsUnnamed (IsRelaxedConstraint p n)

-- ---- problems

-- the problem of the constraints with multipliers that are not 0, on the grid, and their multipliers
pub record IsRelaxedProblem (n : ℕ) (p : Problem) (multipliers : List Frac) (p' : Problem)
    (multipliers' : List Frac) : Type 0 where
  pub columns : AllZip (IsRelaxedColumn n) p.columns p'.columns
  pub count : length multipliers' ≡ length p'.constraints
  pub constraints : AreRelaxed p n (weighted multipliers p.constraints)
      (weighted multipliers' p'.constraints)

-- the constraint is off the grid, and j is the column of its first entry that is so without a bound
pub record IsFreeSide (p : Problem) (n : ℕ) (w : Weighted) (j : ℕ) : Type 0 where
  pub named : IsUnnamed w → ⊥
  pub off_grid : IsOnGrid n w.constraint → ⊥
  pub given : Inequality
  pub given_is : IsSide w given
  pub free : IsFirstFreeEntry p n given.entries j

-- j is such a column of the first constraint that has one
pub record IsFirstFreeSide (n : ℕ) (p : Problem) (multipliers : List Frac) (j : ℕ) : Type 0 where
  pub before : List Weighted
  pub next : Weighted
  pub after : List Weighted
  pub place : weighted multipliers p.constraints ≡ before ++ next ∷ after
  pub made : List Weighted
  pub made_are : AreRelaxed p n before made
  pub free : IsFreeSide p n next j

-- the problem on the grid, or the column that keeps a constraint from it
abbrev pub IsRelaxedOf : ℕ → Problem → List Frac → RelaxedProblem → Type 0
IsRelaxedOf n p multipliers (relaxed.Problem p' multipliers') =
    IsRelaxedProblem n p multipliers p' multipliers'.items
IsRelaxedOf n p multipliers (relaxed.Free j) = IsFirstFreeSide n p multipliers j

-- ---- when a number does not fit

-- n times the bound does not fit
abbrev pub IsWideBound : ℕ → Option Frac → Type 0
IsWideBound n None = ⊥
IsWideBound n (Some x) = IsWideTimes n x

-- n times x, when it goes up to the grid, does not fit
abbrev pub IsWideLifted : ℕ → Frac → Type 0
IsWideLifted n x = (m : Frac) × (rational m ≡ neg_ℚ (rational x)) × IsWideTimes n m

abbrev pub IsWideLifting : ℕ → Option Frac → Type 0
IsWideLifting n None = ⊥
IsWideLifting n (Some x) = IsWideLifted n x

abbrev pub IsWideColumn : ℕ → Column → Type 0
IsWideColumn n c = (c.is_whole ≡ false) × (IsWideBound n c.lower ⊎ IsWideLifting n c.upper)

-- a number of the rounding of the constraint does not fit
pub record IsWideSide (p : Problem) (n : ℕ) (w : Weighted) : Type 0 where
  pub named : IsUnnamed w → ⊥
  pub off_grid : IsOnGrid n w.constraint → ⊥
  pub given : Inequality
  pub given_is : IsSide w given
  pub wide : IsWideRounding p n given

pub record AreWideColumns (n : ℕ) (columns : List Column) : Type 0 where
  pub before : List Column
  pub next : Column
  pub after : List Column
  pub place : columns ≡ before ++ next ∷ after
  pub wide : IsWideColumn n next

pub record AreWideSides (n : ℕ) (p : Problem) (multipliers : List Frac) : Type 0 where
  pub before : List Weighted
  pub next : Weighted
  pub after : List Weighted
  pub place : weighted multipliers p.constraints ≡ before ++ next ∷ after
  pub made : List Weighted
  pub made_are : AreRelaxed p n before made
  pub wide : IsWideSide p n next

-- so it is in some continuous column, or in the first constraint that cannot be relaxed
abbrev pub IsWideRelaxing : ℕ → Problem → List Frac → Type 0
IsWideRelaxing n p multipliers = AreWideColumns n p.columns ⊎ AreWideSides n p multipliers
