-- Mixed-integer programs, the points that are feasible, and the inequalities that hold at all of
-- them (Cook, Dash, Fukasawa and Goycoolea 2009).
use Rattle.std.specs.Prelude.{◌≡◌, ◌≢◌, ℕ, ◌+◌, ◌<◌, ◌≤◌, pos, List, [], ◌∷◌, length, All, IfSome, IsTrue, slice_index_or}
use Rattle.std.specs.List.{AllZip}
use Rattle.gj_frac.specs.Fraction.{numerator}
use Rattle.gj_fields.specs.Rational.{Rational, whole, rational, ◌+ℚ◌, ◌*ℚ◌, ◌-ℚ◌, ◌≤ℚ◌, IsWholeNumber}
use Rattle.gj_problem.specs.declared.problem.Entry.{Entry}
use Rattle.gj_problem.specs.declared.problem.Column.{Column}
use Rattle.gj_problem.specs.declared.problem.Constraint.{Constraint}
use Rattle.gj_problem.specs.declared.problem.Problem.{Problem}
use Rattle.gj_problem.specs.declared.problem.Inequality.{Inequality}
use Rattle.gj_problem.specs.declared.problem.Sense.{Sense}
use Rattle.gj_problem.specs.declared.problem.Sense.TheVariants.{AtMost, AtLeast, Equal}

-- what a column is at a point; past the last column it is 0
abbrev pub value_at : List Rational → ℕ → Rational
value_at point column = slice_index_or point column (whole (pos 0))

-- the sum of the entries, each times its column
abbrev pub sum_at : List Rational → List Entry → Rational
sum_at point [] = whole (pos 0)
sum_at point (e ∷ entries) = rational e.value *ℚ value_at point e.column +ℚ sum_at point entries

abbrev pub Meets : Sense → Rational → Rational → Type 0
Meets AtMost sum right = sum ≤ℚ right
Meets AtLeast sum right = right ≤ℚ sum
Meets Equal sum right = sum ≡ right

abbrev pub MeetsConstraint : List Rational → Constraint → Type 0
MeetsConstraint point c = Meets c.sense (sum_at point c.entries) (rational c.right)

-- x is within the bounds of the column, and a whole number if the column is whole
pub record MeetsColumn (column : Column) (x : Rational) : Type 0 where
  pub is_whole : IsTrue column.is_whole → IsWholeNumber x
  pub lower : IfSome column.lower (λ l. rational l ≤ℚ x)
  pub upper : IfSome column.upper (λ u. x ≤ℚ rational u)

-- a point, with one number for each column, that meets all constraints and columns
pub record IsFeasible (p : Problem) (point : List Rational) : Type 0 where
  pub columns : AllZip MeetsColumn p.columns point
  pub constraints : All (MeetsConstraint point) p.constraints

-- how far the sum is above the right side
abbrev pub surplus_at : List Rational → Inequality → Rational
surplus_at point q = sum_at point q.entries -ℚ rational q.right

-- no entry is 0, and the columns ascend, from the j-th on and below the k-th
abbrev pub AreTermsWithin : ℕ → ℕ → List Entry → Type 0
AreTermsWithin j k [] = j ≤ k
AreTermsWithin j k (e ∷ entries) = (j ≤ e.column) × (numerator e.value ≢ pos 0)
    × AreTermsWithin (e.column + 1) k entries

-- each column of the problem has at most one entry, not 0, in the order of the columns
abbrev pub HasTerms : Problem → Inequality → Type 0
HasTerms p q = AreTermsWithin 0 (length p.columns) q.entries

-- the inequality holds at all feasible points
abbrev pub Holds : Problem → Inequality → Type 0
Holds p q = (point : List Rational) → IsFeasible p point →
    rational q.right ≤ℚ sum_at point q.entries

-- c is the column at an index
pub record IsColumn (p : Problem) (j : ℕ) (c : Column) : Type 0 where
  pub below : j < length p.columns
  pub is : slice_index_or p.columns j c ≡ c

-- the column at an index is whole
abbrev pub IsWholeColumn : Problem → ℕ → Type 0
IsWholeColumn p j = (c : Column) × IsColumn p j c × IsTrue c.is_whole

-- c is a constraint of the problem
pub record IsConstraint (p : Problem) (i : ℕ) (c : Constraint) : Type 0 where
  pub below : i < length p.constraints
  pub is : slice_index_or p.constraints i c ≡ c
