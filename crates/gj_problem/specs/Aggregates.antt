-- The row of a problem by multipliers: the constraints, each times its multiplier, are added up;
-- their slacks, and the columns turned to their bounds, are the columns of the row (Gomory 1960;
-- Cook, Dash, Fukasawa and Goycoolea 2009).
use Rattle.std.specs.Prelude.{◌≡◌, ◌⊎◌, ◌↔◌, ℕ, ◌+◌, ℤ, pos, negsuc, ◌-ℤ◌, ◌*ℤ◌, neg_ℤ, ◌≤ℤ◌, ◌<ℤ◌, Bool, true, false, Option, Some, None, List, [], ◌∷◌, ◌++◌, length, map, All, IsTrue}
use Rattle.gj_frac.specs.declared.Frac.{Frac}
use Rattle.gj_frac.specs.Floor.{IsFloor}
use Rattle.gj_frac.specs.Fraction.{IsWhole, numerator, denominator}
use Rattle.gj_shape.specs.Given.{IsLeastCommonDenominator}
use Rattle.gj_fields.specs.Rational.{Rational, whole, rational, ◌+ℚ◌, ◌*ℚ◌, neg_ℚ, ◌-ℚ◌, ◌≤ℚ◌}
use Rattle.gj_problem.specs.declared.problem.Column.{Column}
use Rattle.gj_problem.specs.declared.problem.Constraint.{Constraint}
use Rattle.gj_problem.specs.declared.problem.Entry.{Entry}
use Rattle.gj_problem.specs.declared.problem.Inequality.{Inequality}
use Rattle.gj_problem.specs.declared.problem.Problem.{Problem}
use Rattle.gj_problem.specs.declared.problem.Sense.{Sense}
use Rattle.gj_problem.specs.declared.problem.Sense.TheVariants.{AtMost, AtLeast, Equal}
use Rattle.gj_problem.specs.declared.pieces.Piece.{Piece}
use Rattle.gj_problem.specs.declared.bounds.Held.{Held}
use Rattle.gj_problem.specs.Problems.{IsFeasible, IsWholeColumn, Holds, sum_at, surplus_at}
use Rattle.gj_problem.specs.Rows.{dot, IsMultiple, IsOneColumn, HasWholeSurplus}

-- ---- pieces

-- the numbers, each times the surplus of its piece
abbrev pub combined_at : List Rational → List Frac → List Piece → Rational
combined_at point numbers pieces =
    dot numbers (map (surplus_at point) (map (λ s. s.inequality) pieces))

-- the entries, each times the surplus of its piece
abbrev pub pieces_at : List Rational → List Piece → Rational
pieces_at point pieces = combined_at point (map (λ s. s.entry) pieces) pieces

-- what the items make, in their order; some are passed over
abbrev pub AreMadeOf : {A B : Type 0} → (A → Type 0) → (A → B → Type 0) → List A → List B → Type 0
AreMadeOf Passed Makes [] made = made ≡ []
AreMadeOf {A} {B} Passed Makes (x ∷ xs) made = (Passed x × AreMadeOf Passed Makes xs made)
    ⊎ ((Passed x → ⊥) × (s : B) × (rest : List B) × (made ≡ s ∷ rest) × Makes x s
    × AreMadeOf Passed Makes xs rest)

-- ---- adding up

-- a constraint and its multiplier
pub record Weighted : Type 0 where
  pub multiplier : Frac
  pub constraint : Constraint

-- each constraint with its multiplier
abbrev pub weighted : List Frac → List Constraint → List Weighted
weighted (m ∷ ms) (c ∷ cs) = record { multiplier = m; constraint = c } ∷ weighted ms cs
weighted [] cs = []
weighted (m ∷ ms) [] = []

-- what the sums of the constraints have above their right sides, each times its multiplier
abbrev pub aggregate_at : List Rational → List Weighted → Rational
aggregate_at point [] = whole (pos 0)
aggregate_at point (w ∷ ws) =
    rational w.multiplier *ℚ (sum_at point w.constraint.entries -ℚ rational w.constraint.right)
    +ℚ aggregate_at point ws

-- the constraints add up to these coefficients, one for each column, against this right side
pub record IsAggregate (p : Problem) (ws : List Weighted) (coefficients : List Frac)
    (right : Frac) : Type 0 where
  pub count : length coefficients ≡ length p.columns
  pub adds : (point : List Rational) → dot coefficients point -ℚ rational right
      ≡ aggregate_at point ws

-- ---- slacks

-- all columns of the constraint are whole
abbrev pub HasWholeColumns : Problem → Constraint → Type 0
HasWholeColumns p c = All (λ e. IsWholeColumn p e.column) c.entries

-- the slack is above 0 where the sum is below the right side of "at most", or above that of "at
-- least"
abbrev pub signed : Sense → ℕ → ℤ
signed AtMost n = neg_ℤ (pos n)
signed AtLeast n = pos n
signed Equal n = pos n

-- M, by which a slack is scaled: the least common denominator of the numbers if all columns are
-- whole, so that the slack is whole too, else 1
abbrev pub IsScale : Frac → List Entry → Bool → ℕ → Type 0
IsScale right entries true n = IsLeastCommonDenominator (right ∷ map (λ e. e.value) entries) n
IsScale right entries false n = n ≡ 1

-- an equation has no slack, and a constraint that is not in the sum needs none
abbrev pub HasNoSlack : Weighted → Type 0
HasNoSlack w = (numerator w.multiplier ≡ pos 0) ⊎ (w.constraint.sense ≡ Equal)

-- M times the slack of the constraint; its entry is such that with it the constraint is an equation
pub record IsSlack (p : Problem) (w : Weighted) (s : Piece) : Type 0 where
  pub is_whole : IsTrue s.is_whole ↔ HasWholeColumns p w.constraint
  pub scale : ℕ
  pub scale_is : IsScale w.constraint.right w.constraint.entries s.is_whole scale
  pub slack_is : IsMultiple (whole (signed w.constraint.sense scale)) w.constraint.entries
      w.constraint.right s.inequality
  pub entry_is : whole (signed w.constraint.sense scale) *ℚ rational s.entry
      ≡ neg_ℚ (rational w.multiplier)

-- ---- bounds

-- each column, the first with this index, with its coefficient
abbrev pub held : ℕ → List Column → List Frac → List Bool → List Held
held j (column ∷ columns) (c ∷ cs) (up ∷ ups) =
    record { index = j; column = column; coefficient = c; at_upper = up } ∷ held
    (j + 1) columns cs ups
held j [] cs ups = []
held j (column ∷ columns) [] ups = []
held j (column ∷ columns) (c ∷ cs) [] = []

-- the coefficient is 0, or a whole number in a whole column
abbrev pub IsLeftOut : Held → Type 0
IsLeftOut h = (numerator h.coefficient ≡ pos 0) ⊎ (IsWhole h.coefficient × IsTrue h.column.is_whole)

-- n is the least whole number that is at least x
pub record IsCeiling (x : Frac) (n : ℤ) : Type 0 where
  pub at_least : numerator x ≤ℤ (n *ℤ denominator x)
  pub before_below : ((n -ℤ pos 1) *ℤ denominator x) <ℤ numerator x

-- the bound b of a column for its given bound: that of a whole column is rounded into its range
abbrev pub IsLowerBound : Bool → Frac → Frac → Type 0
IsLowerBound true l b = (n : ℤ) × IsCeiling l n × (rational b ≡ whole n)
IsLowerBound false l b = b ≡ l

abbrev pub IsUpperBound : Bool → Frac → Frac → Type 0
IsUpperBound true u b = (n : ℤ) × IsFloor u n × (rational b ≡ whole n)
IsUpperBound false u b = b ≡ u

-- the column minus its lower bound; the entry stays
pub record IsFromLower (h : Held) (l : Frac) (s : Piece) : Type 0 where
  pub bound : Frac
  pub bound_is : IsLowerBound h.column.is_whole l bound
  pub inequality_is : IsOneColumn h.index (whole (pos 1)) (rational bound) s.inequality
  pub entry_is : rational s.entry ≡ rational h.coefficient

-- the upper bound minus the column; the entry changes its sign
pub record IsFromUpper (h : Held) (u : Frac) (s : Piece) : Type 0 where
  pub bound : Frac
  pub bound_is : IsUpperBound h.column.is_whole u bound
  pub inequality_is : IsOneColumn h.index (whole (negsuc 0)) (neg_ℚ (rational bound)) s.inequality
  pub entry_is : rational s.entry ≡ neg_ℚ (rational h.coefficient)

-- the lower bound is taken, unless there is none or the upper one is preferred
abbrev pub IsTurnedFrom : Held → Option Frac → Option Frac → Bool → Piece → Type 0
IsTurnedFrom h None None up s = ⊥
IsTurnedFrom h None (Some u) up s = IsFromUpper h u s
IsTurnedFrom h (Some l) None up s = IsFromLower h l s
IsTurnedFrom h (Some l) (Some u) true s = IsFromUpper h u s
IsTurnedFrom h (Some l) (Some u) false s = IsFromLower h l s

-- the column turned to a bound
pub record IsTurned (h : Held) (s : Piece) : Type 0 where
  pub is_whole : s.is_whole ≡ h.column.is_whole
  pub turned : IsTurnedFrom h h.column.lower h.column.upper h.at_upper s

-- a column that cannot be left out and has no bound
pub record IsFree (h : Held) : Type 0 where
  pub kept : IsLeftOut h → ⊥
  pub no_lower : h.column.lower ≡ None
  pub no_upper : h.column.upper ≡ None

-- ---- the row

-- the row with these pieces, those of slacks first, and with this right side
pub record IsRow (p : Problem) (multipliers : List Frac) (at_upper : List Bool)
    (pieces : List Piece) (right : Frac) : Type 0 where
  pub coefficients : List Frac
  pub against : Frac
  pub sum : IsAggregate p (weighted multipliers p.constraints) coefficients against
  pub slacks : List Piece
  pub bounds : List Piece
  pub pieces_are : pieces ≡ slacks ++ bounds
  pub slacks_are : AreMadeOf HasNoSlack (IsSlack p) (weighted multipliers p.constraints) slacks
  pub bounds_are : AreMadeOf IsLeftOut IsTurned (held 0 p.columns coefficients at_upper) bounds
  -- at the point 0 each piece of a bound is minus its entry times the bound
  pub right_is : rational right ≡ rational against +ℚ pieces_at [] bounds

-- the first free column
pub record IsFirstFreeOf (hs : List Held) (j : ℕ) : Type 0 where
  pub before : List Held
  pub column : Held
  pub after : List Held
  pub place : hs ≡ before ++ column ∷ after
  pub none_before : All (λ h. IsFree h → ⊥) before
  pub free : IsFree column
  pub index : j ≡ column.index

-- the first free column of the sum
pub record IsFirstFree (p : Problem) (multipliers : List Frac) (at_upper : List Bool) (j : ℕ) :
    Type 0 where
  pub coefficients : List Frac
  pub against : Frac
  pub sum : IsAggregate p (weighted multipliers p.constraints) coefficients against
  pub first : IsFirstFreeOf (held 0 p.columns coefficients at_upper) j

-- the piece holds, and its surplus is whole if it says so
pub record IsSound (p : Problem) (s : Piece) : Type 0 where
  pub holds : Holds p s.inequality
  pub is_whole : IsTrue s.is_whole → HasWholeSurplus p s.inequality

-- the entries, each times the surplus of its piece, and a whole number add up to the right side
abbrev pub AddsUpAt : List Rational → List Piece → Frac → Type 0
AddsUpAt point pieces right = (z : ℤ) × (pieces_at point pieces +ℚ whole z ≡ rational right)

-- ---- turning back

-- at all feasible points the coefficients, each times the surplus of its piece, add up to at least
-- 1
abbrev pub IsCutOver : Problem → List Piece → List Frac → Type 0
IsCutOver p pieces coefficients =
    (point : List Rational) → IsFeasible p point →
    whole (pos 1) ≤ℚ combined_at point coefficients pieces

-- the inequality says the same in the columns of the problem
abbrev pub IsTurnedBack : List Piece → List Frac → Inequality → Type 0
IsTurnedBack pieces coefficients q =
    (point : List Rational) →
    surplus_at point q ≡ combined_at point coefficients pieces -ℚ whole (pos 1)
