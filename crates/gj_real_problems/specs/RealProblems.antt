-- Points of real numbers that are feasible, and the inequalities that hold at all of them (Cook,
-- Dash, Fukasawa and Goycoolea 2009).
use Rattle.std.specs.Prelude.{◌≡◌, ℕ, ℤ, List, [], ◌∷◌, All, IfSome, IsTrue, slice_index_or}
use Rattle.std.specs.List.{AllZip}
use Rattle.gj_fields.specs.Fields.{OrderedField, AtMost, whole}
use Rattle.gj_real_cuts.specs.RealRows.{number_of}
use Rattle.gj_problem.specs.declared.problem.Entry.{Entry}
use Rattle.gj_problem.specs.declared.problem.Column.{Column}
use Rattle.gj_problem.specs.declared.problem.Constraint.{Constraint}
use Rattle.gj_problem.specs.declared.problem.Problem.{Problem}
use Rattle.gj_problem.specs.declared.problem.Inequality.{Inequality}
use Rattle.gj_problem.specs.declared.problem.Sense.{Sense}
use Rattle.gj_problem.specs.declared.problem.Sense.TheVariants as sense
use Rattle.gj_safe_cut.specs.declared.cut.SafeCut.{SafeCut}
use Rattle.gj_safe_cut.specs.declared.cut.SafeCut.TheVariants.{Cut, Integral, OtherFraction, Free, Wide}

-- what a column is at a point; past the last column it is 0
abbrev pub real_value_at : {R : Type 0} → OrderedField R → List R → ℕ → R
real_value_at K point column = slice_index_or point column K.zero

-- the sum of the entries, each times its column
abbrev pub real_sum_at : {R : Type 0} → OrderedField R → List R → List Entry → R
real_sum_at K point [] = K.zero
real_sum_at K point (e ∷ entries) =
    K.plus (K.times (number_of K e.value) (real_value_at K point e.column))
    (real_sum_at K point entries)

abbrev pub MeetsOver : {R : Type 0} → OrderedField R → Sense → R → R → Type 0
MeetsOver K sense.AtMost sum right = AtMost K sum right
MeetsOver K sense.AtLeast sum right = AtMost K right sum
MeetsOver K sense.Equal sum right = sum ≡ right

abbrev pub MeetsRealConstraint : {R : Type 0} → OrderedField R → List R → Constraint → Type 0
MeetsRealConstraint K point c =
    MeetsOver K c.sense (real_sum_at K point c.entries) (number_of K c.right)

-- x is within the bounds of the column, and a whole number if the column is whole
pub record MeetsRealColumn {R : Type 0} (K : OrderedField R) (column : Column) (x : R) :
    Type 0 where
  pub is_whole : IsTrue column.is_whole → (z : ℤ) × (x ≡ whole K z)
  pub lower : IfSome column.lower (λ l. AtMost K (number_of K l) x)
  pub upper : IfSome column.upper (λ u. AtMost K x (number_of K u))

-- a point, with one number for each column, that meets all constraints and columns
pub record IsRealFeasible {R : Type 0} (K : OrderedField R) (p : Problem) (point : List R) :
    Type 0 where
  pub columns : AllZip (MeetsRealColumn K) p.columns point
  pub constraints : All (MeetsRealConstraint K point) p.constraints

-- the inequality holds at all feasible points of numbers of the field
abbrev pub RealHolds : {R : Type 0} → OrderedField R → Problem → Inequality → Type 0
RealHolds {R} K p q =
    (point : List R) → IsRealFeasible K p point →
    AtMost K (number_of K q.right) (real_sum_at K point q.entries)

-- the cut, if there is one, holds at all of them
abbrev pub RealSafeCutHolds : {R : Type 0} → OrderedField R → Problem → SafeCut → Type 0
RealSafeCutHolds K p (Cut q) = RealHolds K p q
RealSafeCutHolds K p Integral = Unit {0}
RealSafeCutHolds K p OtherFraction = Unit {0}
RealSafeCutHolds K p (Free j) = Unit {0}
RealSafeCutHolds K p Wide = Unit {0}
