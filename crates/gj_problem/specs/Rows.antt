-- Rows made of inequalities that hold at all feasible points (own).
use Rattle.std.specs.Prelude.{◌≡◌, ℕ, ℤ, pos, ◌≤ℤ◌, List, [], ◌∷◌, All}
use Rattle.std.specs.List.{AllZip}
use Rattle.gj_frac.specs.declared.Frac.{Frac}
use Rattle.gj_frac.specs.Fraction.{IsWhole}
use Rattle.gj_fields.specs.Rational.{Rational, whole, rational, ◌+ℚ◌, ◌*ℚ◌, ◌-ℚ◌, IsWholeNumber}
use Rattle.gj_problem.specs.declared.problem.Constraint.{Constraint}
use Rattle.gj_problem.specs.declared.problem.Entry.{Entry}
use Rattle.gj_problem.specs.declared.problem.Problem.{Problem}
use Rattle.gj_problem.specs.declared.problem.Sense.{Sense}
use Rattle.gj_problem.specs.declared.problem.Sense.TheVariants.{AtMost, AtLeast, Equal}
use Rattle.gj_problem.specs.declared.problem.Inequality.{Inequality}
use Rattle.gj_problem.specs.Problems.{IsFeasible, surplus_at, sum_at, IsWholeColumn}

-- the sum of the products of numbers
abbrev pub dot : List Frac → List Rational → Rational
dot [] values = whole (pos 0)
dot (c ∷ cs) [] = whole (pos 0)
dot (c ∷ cs) (v ∷ values) = rational c *ℚ v +ℚ dot cs values

-- the surplus of the inequality is a whole number at all feasible points
abbrev pub HasWholeSurplus : Problem → Inequality → Type 0
HasWholeSurplus p q = (point : List Rational) → IsFeasible p point →
    IsWholeNumber (surplus_at point q)

-- ---- inequalities that hold

-- the surplus is m times what the constraint's sum has above its right side; m has the sign that
-- the sense asks for
abbrev pub IsSignFor : Sense → ℤ → Type 0
IsSignFor AtMost m = m ≤ℤ pos 0
IsSignFor AtLeast m = pos 0 ≤ℤ m
IsSignFor Equal m = Unit {0}

abbrev pub IsConstraintTimes : Constraint → ℤ → Inequality → Type 0
IsConstraintTimes c m q = (point : List Rational) →
    surplus_at point q ≡ whole m *ℚ (sum_at point c.entries -ℚ rational c.right)

-- the inequality has these entries, and the right side, each times x
pub record IsMultiple (x : Rational) (entries : List Entry) (right : Frac) (q : Inequality) :
    Type 0 where
  pub entries_are : AllZip (λ (e f : Entry). (f.column ≡ e.column)
      × (rational f.value ≡ x *ℚ rational e.value)) entries q.entries
  pub right_is : rational q.right ≡ x *ℚ rational right

-- the inequality has one entry, x in column j, and the right side b
pub record IsOneColumn (j : ℕ) (x b : Rational) (q : Inequality) : Type 0 where
  pub entry : Entry
  pub alone : q.entries ≡ entry ∷ []
  pub column : entry.column ≡ j
  pub value : rational entry.value ≡ x
  pub right_is : rational q.right ≡ b

-- all numbers of the inequality and all its columns are whole
pub record IsWholeInequality (p : Problem) (q : Inequality) : Type 0 where
  pub entries : All (λ e. IsWhole e.value × IsWholeColumn p e.column) q.entries
  pub right : IsWhole q.right
