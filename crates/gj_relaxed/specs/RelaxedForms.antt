-- The parts of a problem on a grid, each on its own (own).
use Rattle.std.specs.Prelude.{◌≡◌, ◌↔◌, ℕ, Bool, true, false, Option, Some, None, List, IsTrue}
use Rattle.std.specs.List.{AllZip}
use Rattle.gj_frac.specs.declared.Frac.{Frac}
use Rattle.gj_fields.specs.Rational.{whole}
use Rattle.gj_problem.specs.declared.problem.Column.{Column}
use Rattle.gj_problem.specs.declared.problem.Constraint.{Constraint}
use Rattle.gj_problem.specs.declared.problem.Inequality.{Inequality}
use Rattle.gj_problem.specs.declared.problem.Problem.{Problem}
use Rattle.gj_problem.specs.declared.problem.Sense.TheVariants.{AtLeast}
use Rattle.gj_problem.specs.declared.rounding.RoundedCut.{RoundedCut}
use Rattle.gj_problem.specs.declared.rounding.RoundedCut.TheVariants as cut
use Rattle.gj_problem.specs.Rows.{IsMultiple}
use Rattle.gj_problem.specs.RoundedCuts.{IsRoundedOf, TellsWideRounding}
use Rattle.gj_relaxed.specs.RelaxedProblems.{IsOnGrid, IsRelaxedColumn, AreWideColumns}
use Rattle.gj_relaxed.specs.RelaxedSteps.{sign_of}
use Rattle.gj_relaxed.specs.declared.forms.Forms.{Forms}
use Rattle.gj_relaxed.specs.declared.forms.RelaxedParts.{RelaxedParts}
use Rattle.gj_relaxed.specs.declared.sides.Side.{Side}
use Rattle.gj_relaxed.specs.declared.sides.Side.TheVariants as side

-- the constraint as an inequality, its signs turned or not, is rounded so, if this has been done
abbrev pub IsRoundedWithSign : Problem → ℕ → Constraint → Bool → Option RoundedCut → Type 0
IsRoundedWithSign p n c is_turned None = Unit {0}
IsRoundedWithSign p n c is_turned (Some made) = (given : Inequality)
    × IsMultiple (whole (sign_of is_turned)) c.entries c.right given
    × IsRoundedOf p n given made × TellsWideRounding p n given made

abbrev pub rounded_of : Forms → Bool → Option RoundedCut
rounded_of f true = f.turned
rounded_of f false = f.plain

-- whether the constraint is on the grid, and how it is rounded
pub record AreForms (p : Problem) (n : ℕ) (c : Constraint) (f : Forms) : Type 0 where
  pub on_grid : IsTrue f.is_on_grid ↔ IsOnGrid n c
  pub plain : IsRoundedWithSign p n c false f.plain
  pub turned : IsRoundedWithSign p n c true f.turned

-- the columns on the grid, or a number of one does not fit
abbrev pub AreColumns : ℕ → List Column → Option (List Column) → Type 0
AreColumns n columns None = AreWideColumns n columns
AreColumns n columns (Some relaxed) = AllZip (IsRelaxedColumn n) columns relaxed
    × (AreWideColumns n columns → ⊥)

pub record ArePartsOf (n : ℕ) (p : Problem) (parts : RelaxedParts) : Type 0 where
  pub columns : AreColumns n p.columns parts.columns
  pub forms : AllZip (AreForms p n) p.constraints parts.forms.items

-- the rounded inequality as a constraint with this multiplier, or its first free entry
abbrev pub IsSideOf : RoundedCut → Frac → Side → Type 0
IsSideOf (cut.Cut r) multiplier (side.Made c m) =
    (c ≡ record { entries = r.entries; sense = AtLeast; right = r.right }) × (m ≡ multiplier)
IsSideOf (cut.Free j) multiplier (side.Free k) = k ≡ j
IsSideOf made multiplier s = ⊥
