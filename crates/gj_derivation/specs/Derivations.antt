-- Derivations: chains of inequalities, each shown from constraints and earlier ones (Chvátal 1973;
-- Cook, Dash, Fukasawa and Goycoolea 2009; Cheung, Gleixner and Steffy 2017).
use Rattle.std.specs.Prelude.{◌≡◌, ◌⊎◌, ◌↔◌, ℕ, zero, suc, pos, ◌<ℤ◌, ◌<◌, ℤ, Bool, true, false, Option, Some, None, List, [], ◌∷◌, ◌++◌, length, map, All, Contains, IfSome, IsTrue, slice_index_or}
use Rattle.gj_frac.specs.declared.Frac.{Frac}
use Rattle.gj_frac.specs.Fraction.{numerator}
use Rattle.gj_shape.specs.FunctionData.{FunctionData, IsWithinBounds, IsContinuous}
use Rattle.gj_shape.specs.Table.{IsMinimal}
use Rattle.gj_fields.specs.Rational.{Rational, whole, rational, ◌+ℚ◌, ◌*ℚ◌, neg_ℚ, ◌≤ℚ◌, IsWholeNumber}
use Rattle.gj_problem.specs.declared.problem.Column.{Column}
use Rattle.gj_problem.specs.declared.problem.Constraint.{Constraint}
use Rattle.gj_problem.specs.declared.problem.Entry.{Entry}
use Rattle.gj_problem.specs.declared.problem.Inequality.{Inequality}
use Rattle.gj_problem.specs.declared.problem.Problem.{Problem}
use Rattle.gj_problem.specs.declared.problem.Sense.{Sense}
use Rattle.gj_problem.specs.declared.problem.Sense.TheVariants.{AtLeast}
use Rattle.gj_problem.specs.Problems.{value_at, sum_at, IsConstraint}
use Rattle.gj_problem.specs.Rows.{dot, IsSignFor}
use Rattle.gj_problem.specs.Moves.{IsBelowOnGrid, AreMovedBy}
use Rattle.gj_safe_cut.specs.declared.cut.SafeCut.{SafeCut}
use Rattle.gj_safe_cut.specs.declared.cut.SafeCut.TheVariants.{Cut}
use Rattle.gj_safe_cut.specs.SafeCuts.{IsGmicSafeCutOf, IsFunctionSafeCutOf}
use Rattle.gj_derivation.specs.declared.step.Combination.{Combination}
use Rattle.gj_derivation.specs.declared.step.Multiplier.{Multiplier}
use Rattle.gj_derivation.specs.declared.step.Step.{Step}
use Rattle.gj_derivation.specs.declared.step.StepRule.{StepRule}
use Rattle.gj_derivation.specs.declared.step.StepRule.TheVariants.{Linear, Gmic, Function}

-- ---- inequalities in numbers of any size

-- a coefficient for each column; their sum, each times its column, is at least the right side
pub record Line : Type 0 where
  pub coefficient : ℕ → Rational
  pub right : Rational

-- the point that is 1 in column j and 0 in all others
abbrev pub unit : ℕ → List Rational
unit zero = whole (pos 1) ∷ []
unit (suc j) = whole (pos 0) ∷ unit j

-- the coefficient of column j in a sum
abbrev pub coefficient_in : List Entry → ℕ → Rational
coefficient_in entries j = sum_at (unit j) entries

abbrev pub line_of : Inequality → Line
line_of q = record { coefficient = coefficient_in q.entries; right = rational q.right }

-- ---- the base of a step: the sum

-- column j, and the right side, in constraint i; 0 past the last
abbrev pub coefficient_at : Problem → ℕ → ℕ → Rational
coefficient_at p i j = slice_index_or (map (λ c. coefficient_in c.entries j) p.constraints) i
    (whole (pos 0))

abbrev pub right_at : Problem → ℕ → Rational
right_at p i = slice_index_or (map (λ c. rational c.right) p.constraints) i (whole (pos 0))

abbrev pub added_coefficient : Problem → List Multiplier → ℕ → Rational
added_coefficient p [] j = whole (pos 0)
added_coefficient p (m ∷ ms) j = rational m.value *ℚ coefficient_at p m.line j +ℚ added_coefficient
    p ms j

abbrev pub added_right : Problem → List Multiplier → Rational
added_right p [] = whole (pos 0)
added_right p (m ∷ ms) = rational m.value *ℚ right_at p m.line +ℚ added_right p ms

-- the constraints, each times its multiplier, added up
abbrev pub added : Problem → List Multiplier → Line
added p ms = record { coefficient = added_coefficient p ms; right = added_right p ms }

-- the multiplier has the sign that the sense asks for; a cut takes any
abbrev pub IsSignIn : StepRule → Sense → ℤ → Type 0
IsSignIn Linear sense m = IsSignFor sense m
IsSignIn Gmic sense m = Unit {0}
IsSignIn Function sense m = Unit {0}

-- it is a multiplier of a constraint, with that sign
abbrev pub IsSigned : StepRule → Problem → Multiplier → Type 0
IsSigned rule p m = (c : Constraint) × IsConstraint p m.line c
    × IsSignIn rule c.sense (numerator m.value)

abbrev pub AreSigned : StepRule → Problem → List Multiplier → Type 0
AreSigned rule p = All (IsSigned rule p)

-- ---- the base of a step: the cut

-- the multiplier of constraint i; 0 if it is not named
abbrev pub multiplier_of : List Multiplier → ℕ → Rational
multiplier_of [] i = whole (pos 0)
multiplier_of (m ∷ ms) i = rational m.value *ℚ value_at (unit i) m.line +ℚ multiplier_of ms i

-- one for each constraint
pub record AreMultipliers (p : Problem) (named : List Multiplier) (multipliers : List Frac) : Type 0
  where
    pub count : length multipliers ≡ length p.constraints
    pub are : (i : ℕ) → dot multipliers (unit i) ≡ multiplier_of named i

-- each column is turned by its upper bound if it is named
pub record AreAtUpper (p : Problem) (named : List ℕ) (at_upper : List Bool) : Type 0 where
  pub count : length at_upper ≡ length p.columns
  pub are : (j : ℕ) → j < length p.columns → (IsTrue (slice_index_or at_upper j false) ↔ Contains
      named j)

-- what the rule makes of a problem by multipliers; f is the function of the steps by a function
abbrev pub IsCutBy : StepRule → Option FunctionData → Problem → List Frac → List Bool → SafeCut →
    Type 0
IsCutBy Linear f p multipliers at_upper cut = ⊥
IsCutBy Gmic f p multipliers at_upper cut = IsGmicSafeCutOf p multipliers at_upper cut
IsCutBy Function (Some f) p multipliers at_upper cut = IsFunctionSafeCutOf f p multipliers at_upper
    cut
IsCutBy Function None p multipliers at_upper cut = ⊥

-- what it makes of the row of the multipliers that are named
pub record IsCutOf (f : Option FunctionData) (p : Problem) (c : Combination) (cut : SafeCut) : Type
    0 where
  pub multipliers : List Frac
  pub multipliers_are : AreMultipliers p c.multipliers multipliers
  pub at_upper : List Bool
  pub at_upper_are : AreAtUpper p c.at_upper at_upper
  pub cut_is : IsCutBy c.rule f p multipliers at_upper cut

-- ---- the base of a step

abbrev pub IsBaseBy : StepRule → Option FunctionData → Problem → Combination → Line → Type 0
IsBaseBy Linear f p c base = base ≡ added p c.multipliers
IsBaseBy Gmic f p c base = (q : Inequality) × IsCutOf f p c (Cut q) × (base ≡ line_of q)
IsBaseBy Function f p c base = (q : Inequality) × IsCutOf f p c (Cut q) × (base ≡ line_of q)

-- what is made of the constraints that are added up: their sum, or the cut of their row
abbrev pub IsBase : Option FunctionData → Problem → Combination → Line → Type 0
IsBase f p c base = AreSigned c.rule p c.multipliers × IsBaseBy c.rule f p c base

-- ---- what a step shows

-- whole coefficients in whole columns, and none in continuous ones
abbrev pub IsWholeTerm : Bool → Rational → Type 0
IsWholeTerm true x = IsWholeNumber x
IsWholeTerm false x = x ≡ whole (pos 0)

abbrev pub AreWholeTerms : List Column → (ℕ → Rational) → Type 0
AreWholeTerms [] xs = Unit {0}
AreWholeTerms (c ∷ columns) xs = IsWholeTerm c.is_whole (xs zero)
    × AreWholeTerms columns (λ j. xs (suc j))

-- y is the least whole number that is at least x
abbrev pub IsRoundedUp : Rational → Rational → Type 0
IsRoundedUp x y = IsBelowOnGrid 1 (neg_ℚ x) (neg_ℚ y)

-- the right side x, rounded up if all terms are whole
abbrev pub IsRightFor : Type 0 → Rational → Rational → Type 0
IsRightFor Whole x y = (Whole × IsRoundedUp x y) ⊎ ((Whole → ⊥) × (y ≡ x))

-- the coefficients of a line, each times the factor
abbrev pub times : Frac → Line → ℕ → Rational
times factor base j = rational factor *ℚ base.coefficient j

-- the right side that a line, times the factor, shows for other coefficients
pub record IsRightOf (columns : List Column) (factor : Frac) (base : Line) (ys : ℕ → Rational)
    (right : Rational) : Type 0 where
  pub shift : Rational
  pub moved : AreMovedBy columns (times factor base) ys shift
  pub right_is : IsRightFor (AreWholeTerms columns ys) (rational factor *ℚ base.right +ℚ shift)
      right

-- the right side that the step shows for the terms of its claim
pub record IsShown (f : Option FunctionData) (p : Problem) (s : Step) (right : Rational) : Type 0
  where
    pub base : Line
    pub base_is : IsBase f p s.combination base
    pub factor_positive : pos 0 <ℤ numerator s.combination.factor
    pub right_is : IsRightOf p.columns s.combination.factor base (coefficient_in s.claim.entries)
        right

-- the claim follows: its right side is at most the one shown
abbrev pub Follows : Option FunctionData → Problem → Step → Type 0
Follows f p s = (right : Rational) × IsShown f p s right × (rational s.claim.right ≤ℚ right)

-- ---- derivations

-- the problem with the inequality as one more constraint
abbrev pub with_claim : Problem → Inequality → Problem
with_claim p q = record {
  columns = p.columns;
  constraints = p.constraints ++ record { entries = q.entries; sense = AtLeast; right = q.right } ∷
      [];
}

-- each step follows from the constraints and the claims of the steps before it
abbrev pub IsDerivation : Option FunctionData → Problem → List Step → Type 0
IsDerivation f p [] = Unit {0}
IsDerivation f p (s ∷ steps) = Follows f p s × IsDerivation f (with_claim p s.claim) steps

-- ---- functions

-- a function by which cuts hold: it is within the bounds of functions, minimal and continuous
pub record IsUsable (f : FunctionData) : Type 0 where
  pub bounds : IsWithinBounds f
  pub minimal : IsMinimal f
  pub continuous : IsContinuous f

-- the function, if there is one, is usable; only a step by a function asks for it
abbrev pub IsUsableFor : Option FunctionData → StepRule → Type 0
IsUsableFor f Linear = Unit {0}
IsUsableFor f Gmic = Unit {0}
IsUsableFor f Function = IfSome f IsUsable

-- the function, if there is one, is minimal and continuous, and a step by a function has one
abbrev pub HasFunctionFor : Option FunctionData → StepRule → Type 0
HasFunctionFor (Some f) rule = IsMinimal f × IsContinuous f
HasFunctionFor None Linear = Unit {0}
HasFunctionFor None Gmic = Unit {0}
HasFunctionFor None Function = ⊥

-- a combination that can be checked
pub record IsReady (f : Option FunctionData) (c : Combination) : Type 0 where
  pub factor_positive : pos 0 <ℤ numerator c.factor
  pub function : HasFunctionFor f c.rule

abbrev pub IsReadyStep : Option FunctionData → Step → Type 0
IsReadyStep f s = IsReady f s.combination
