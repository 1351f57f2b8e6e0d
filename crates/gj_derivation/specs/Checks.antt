-- What a check of a step answers (own).
use Rattle.std.specs.Prelude.{◌≡◌, ◌⊎◌, ℕ, pos, ◌<◌, ◌≤◌, ◌<ℤ◌, ◌^◌, Option, None, List, ◌∷◌, ◌++◌, length, take, slice_index_or}
use Rattle.gj_frac.specs.declared.Frac.{Frac}
use Rattle.gj_frac.specs.Fits.{FitsProduct, FitsSum}
use Rattle.gj_frac.specs.Fraction.{numerator}
use Rattle.gj_shape.specs.FunctionData.{FunctionData}
use Rattle.gj_fields.specs.Rational.{Rational, whole, rational, ◌+ℚ◌, ◌*ℚ◌, neg_ℚ, ◌-ℚ◌, ◌≤ℚ◌}
use Rattle.gj_problem.specs.declared.problem.Column.{Column}
use Rattle.gj_problem.specs.declared.problem.Constraint.{Constraint}
use Rattle.gj_problem.specs.declared.problem.Entry.{Entry}
use Rattle.gj_problem.specs.declared.problem.Problem.{Problem}
use Rattle.gj_problem.specs.declared.sums.Sum.{Sum}
use Rattle.gj_problem.specs.Problems.{IsConstraint}
use Rattle.gj_problem.specs.Rows.{dot}
use Rattle.gj_problem.specs.Steps.{IsWideAt, IsWideWithin}
use Rattle.gj_safe_cut.specs.declared.cut.SafeCut.{SafeCut}
use Rattle.gj_safe_cut.specs.declared.cut.SafeCut.TheVariants as cut
use Rattle.gj_derivation.specs.declared.step.Combination.{Combination}
use Rattle.gj_derivation.specs.declared.step.Multiplier.{Multiplier}
use Rattle.gj_derivation.specs.declared.step.Step.{Step}
use Rattle.gj_derivation.specs.declared.step.StepRule.{StepRule}
use Rattle.gj_derivation.specs.declared.step.StepRule.TheVariants.{Linear, Gmic, Function}
use Rattle.gj_derivation.specs.declared.step.Verdict.{Verdict}
use Rattle.gj_derivation.specs.declared.step.Verdict.TheVariants.{Accepted, Sign, Free, Integral, Other, Bound, Right, Wide}
use Rattle.gj_derivation.specs.declared.base.Base.{Base}
use Rattle.gj_derivation.specs.declared.base.Base.TheVariants as base
use Rattle.gj_derivation.specs.declared.moves.Moved.{Moved}
use Rattle.gj_derivation.specs.declared.moves.Moved.TheVariants as moved
use Rattle.gj_problem.specs.Moves.{HasLower, HasUpper, IsMovedBy, AreMovedBy}
use Rattle.gj_derivation.specs.Derivations.{Line, unit, coefficient_in, line_of, coefficient_at, right_at, added_coefficient, added_right, multiplier_of, times, IsSigned, AreSigned, IsCutOf, IsBase, IsRightOf, IsShown, Follows}

-- ---- the base

-- the line of the first multiplier that has not its sign, or no constraint
pub record IsFirstUnsigned (rule : StepRule) (p : Problem) (ms : List Multiplier) (i : ℕ) : Type 0
  where
    pub before : List Multiplier
    pub multiplier : Multiplier
    pub after : List Multiplier
    pub place : ms ≡ before ++ multiplier ∷ after
    pub signed_before : AreSigned rule p before
    pub unsigned : IsSigned rule p multiplier → ⊥
    pub line : i ≡ multiplier.line

-- the constraint of one more multiplier is added
pub record IsAdded (p : Problem) (m : Multiplier) (old new : Sum) : Type 0 where
  pub right : rational new.right ≡ rational old.right +ℚ rational m.value *ℚ right_at p m.line
  pub coefficients : (j : ℕ) → dot new.coefficients.items (unit j)
      ≡ dot old.coefficients.items (unit j) +ℚ rational m.value *ℚ coefficient_at p m.line j

-- the sum is that of the multipliers
pub record IsSumOf (p : Problem) (ms : List Multiplier) (sum : Sum) : Type 0 where
  pub count : length sum.coefficients.items ≡ length p.columns
  pub right : rational sum.right ≡ added_right p ms
  pub coefficients : (j : ℕ) → dot sum.coefficients.items (unit j) ≡ added_coefficient p ms j

-- a number of the sum does not fit when this multiple of an inequality is added, or an entry has no
-- column
abbrev pub IsWideMore : Sum → Frac → List Entry → Frac → Type 0
IsWideMore sum factor entries right = IsWideWithin sum.coefficients.items factor entries
    ⊎ IsWideAt sum.right factor right

-- so it is with the constraint of the multiplier
abbrev pub IsWideAddition : Problem → Multiplier → Sum → Type 0
IsWideAddition p m sum = (c : Constraint) × IsConstraint p m.line c
    × IsWideMore sum m.value c.entries c.right

-- so it is at some multiplier, when those before it have been added
pub record IsWideAdded (p : Problem) (ms : List Multiplier) : Type 0 where
  pub before : List Multiplier
  pub next : Multiplier
  pub after : List Multiplier
  pub place : ms ≡ before ++ next ∷ after
  pub sum : Sum
  pub sum_is : IsSumOf p before sum
  pub wide : IsWideAddition p next sum

-- some line is named more than once, and the sum of its multipliers does not fit
pub record IsWideNamed (ms : List Multiplier) : Type 0 where
  pub before : List Multiplier
  pub next : Multiplier
  pub after : List Multiplier
  pub place : ms ≡ before ++ next ∷ after
  pub sum : Frac
  pub sum_is : rational sum ≡ multiplier_of before next.line
  pub wide : FitsSum sum next.value → ⊥

abbrev pub IsWideBy : StepRule → Option FunctionData → Problem → Combination → Type 0
IsWideBy Linear f p c = IsWideAdded p c.multipliers
IsWideBy Gmic f p c = IsWideNamed c.multipliers ⊎ IsCutOf f p c cut.Wide
IsWideBy Function f p c = IsWideNamed c.multipliers ⊎ IsCutOf f p c cut.Wide

-- what stands against a base: a sign, what the cut's row lacks, or a number that does not fit
abbrev pub IsBaseless : Option FunctionData → Problem → Combination → Verdict → Type 0
IsBaseless f p c (Sign i) = IsFirstUnsigned c.rule p c.multipliers i
IsBaseless f p c (Free j) = AreSigned c.rule p c.multipliers × IsCutOf f p c (cut.Free j)
IsBaseless f p c Integral = AreSigned c.rule p c.multipliers × IsCutOf f p c cut.Integral
IsBaseless f p c Other = AreSigned c.rule p c.multipliers × IsCutOf f p c cut.OtherFraction
IsBaseless f p c Wide = AreSigned c.rule p c.multipliers × IsWideBy c.rule f p c
IsBaseless f p c Accepted = ⊥
IsBaseless f p c (Bound j) = ⊥
IsBaseless f p c (Right b) = ⊥

-- the sum as an inequality
abbrev pub line_of_sum : Sum → Line
line_of_sum sum = record {
  coefficient = λ j. dot sum.coefficients.items (unit j);
  right = rational sum.right;
}

-- the sum is a line over all n columns
pub record IsSumFor (n : ℕ) (line : Line) (sum : Sum) : Type 0 where
  pub count : length sum.coefficients.items ≡ n
  pub same : line_of_sum sum ≡ line

abbrev pub IsBaseOf : Option FunctionData → Problem → Combination → Base → Type 0
IsBaseOf f p c (base.Line sum) = (line : Line) × IsBase f p c line
    × IsSumFor (length p.columns) line sum
IsBaseOf f p c (base.Against v) = IsBaseless f p c v

-- what the cut is as a base
abbrev pub IsBaseFrom : ℕ → SafeCut → Base → Type 0
IsBaseFrom n (cut.Cut q) (base.Line sum) = IsSumFor n (line_of q) sum
IsBaseFrom n (cut.Free j) (base.Against v) = v ≡ Free j
IsBaseFrom n cut.Integral (base.Against v) = v ≡ Integral
IsBaseFrom n cut.OtherFraction (base.Against v) = v ≡ Other
IsBaseFrom n cut.Wide made = ⊥
IsBaseFrom n (cut.Cut q) (base.Against v) = ⊥
IsBaseFrom n (cut.Free j) (base.Line sum) = ⊥
IsBaseFrom n cut.Integral (base.Line sum) = ⊥
IsBaseFrom n cut.OtherFraction (base.Line sum) = ⊥

-- ---- the terms

-- the coefficient has to go to a side where the column has no bound
abbrev pub IsUnmovable : Column → Rational → Rational → Type 0
IsUnmovable c x y = ((y ≤ℚ x → ⊥) × (c.lower ≡ None)) ⊎ ((x ≤ℚ y → ⊥) × (c.upper ≡ None))

-- the first such column
pub record IsFirstUnmovable (columns : List Column) (xs ys : ℕ → Rational) (j : ℕ) : Type 0 where
  pub below : j < length columns
  pub column : Column
  pub is : column ≡ slice_index_or columns j column
  pub total : Rational
  pub moved_before : AreMovedBy (take j columns) xs ys total
  pub unmovable : IsUnmovable column (xs j) (ys j)

abbrev pub claimed_at : List Frac → ℕ → Rational
claimed_at claimed j = dot claimed (unit j)

abbrev pub IsMovedRight : List Column → Frac → Line → (ℕ → Rational) → Moved → Type 0
IsMovedRight columns factor base ys (moved.Right b) = IsRightOf columns factor base ys (rational b)
IsMovedRight columns factor base ys (moved.Bound j) = IsFirstUnmovable columns (times factor base)
    ys j

-- a number does not fit when the terms are added to none in n columns, or a term has no column
pub record IsWideTerms (n : ℕ) (entries : List Entry) : Type 0 where
  pub none : List Frac
  pub count : length none ≡ n
  pub are_none : (point : List Rational) → dot none point ≡ whole (pos 0)
  pub one : Frac
  pub one_is : rational one ≡ whole (pos 1)
  pub wide : IsWideWithin none one entries

-- the product of the change with the bound does not fit
abbrev pub IsWideTimesBound : (Frac → Type 0) → Frac → Type 0
IsWideTimesBound IsBound change = (b : Frac) × IsBound b × (FitsProduct change b → ⊥)

-- the change from x to y does not fit, or its product with the lower bound if it goes up, or with
-- the upper one if it goes down
abbrev pub IsWideShift : Column → Frac → Frac → Type 0
IsWideShift c x y = ((m : Frac) × (rational m ≡ neg_ℚ (rational x)) × (FitsSum y m → ⊥))
    ⊎ ((change : Frac) × (rational change ≡ rational y -ℚ rational x)
    × (((pos 0 <ℤ numerator change) × IsWideTimesBound (HasLower c) change)
    ⊎ ((numerator change <ℤ pos 0) × IsWideTimesBound (HasUpper c) change)))

-- the factor times the coefficient does not fit, a number of its shift to y, or the right side with
-- the shift
abbrev pub IsWideMoved : Column → Frac → Frac → Frac → Frac → Type 0
IsWideMoved c factor coefficient y right = (FitsProduct factor coefficient → ⊥)
    ⊎ ((x : Frac) × (rational x ≡ rational factor *ℚ rational coefficient) × (IsWideShift c x y
    ⊎ ((s : Frac) × IsMovedBy (HasLower c) (HasUpper c) (rational x) (rational y) (rational s)
    × (FitsSum right s → ⊥))))

-- so it is at some column, when those before it have been moved
pub record IsWideColumn (columns : List Column) (factor : Frac) (base : Line) (ys : ℕ →
    Rational) : Type 0 where
  pub index : ℕ
  pub below : index < length columns
  pub column : Column
  pub is : column ≡ slice_index_or columns index column
  pub coefficient : Frac
  pub coefficient_is : rational coefficient ≡ base.coefficient index
  pub claimed : Frac
  pub claimed_is : rational claimed ≡ ys index
  pub total : Rational
  pub moved_before : AreMovedBy (take index columns) (times factor base) ys total
  pub right : Frac
  pub right_is : rational right ≡ rational factor *ℚ base.right +ℚ total
  pub wide : IsWideMoved column factor coefficient claimed right

-- the factor times the right side does not fit, or a number at some column, or the first column
-- that has no bound for it has an index of 2^32 or more
abbrev pub IsWideMoving : List Column → Frac → Line → (ℕ → Rational) → Type 0
IsWideMoving columns factor base ys =
    ((right : Frac) × (rational right ≡ base.right) × (FitsProduct factor right → ⊥))
    ⊎ (IsWideColumn columns factor base ys
    ⊎ ((j : ℕ) × IsFirstUnmovable columns (times factor base) ys j × (2 ^ 32 ≤ j)))

-- a number of the terms does not fit, or of the moves
abbrev pub IsWideFor : List Column → Frac → Line → List Entry → Type 0
IsWideFor columns factor base entries =
    IsWideTerms (length columns) entries ⊎ IsWideMoving columns factor base (coefficient_in entries)

-- what stands against these terms: the base, the first column that lacks a bound, or a number
abbrev pub IsAgainstTerms : Option FunctionData → Problem → Combination → List Entry → Verdict →
    Type 0
IsAgainstTerms f p c entries (Bound j) =
    (base : Line) × IsBase f p c base × IsFirstUnmovable p.columns (times c.factor base)
    (coefficient_in entries) j
IsAgainstTerms f p c entries Wide = IsBaseless f p c Wide
    ⊎ ((base : Line) × IsBase f p c base × IsWideFor p.columns c.factor base entries)
IsAgainstTerms f p c entries (Sign i) = IsBaseless f p c (Sign i)
IsAgainstTerms f p c entries (Free j) = IsBaseless f p c (Free j)
IsAgainstTerms f p c entries Integral = IsBaseless f p c Integral
IsAgainstTerms f p c entries Other = IsBaseless f p c Other
IsAgainstTerms f p c entries Accepted = ⊥
IsAgainstTerms f p c entries (Right b) = ⊥

-- ---- the answer

-- the step follows, or its right side is above the one that is shown, or its terms have something
-- against them
abbrev pub IsVerdict : Option FunctionData → Problem → Step → Verdict → Type 0
IsVerdict f p s Accepted = Follows f p s
IsVerdict f p s (Right b) = IsShown f p s (rational b) × (rational s.claim.right ≤ℚ rational b → ⊥)
IsVerdict f p s (Sign i) = IsAgainstTerms f p s.combination s.claim.entries (Sign i)
IsVerdict f p s (Free j) = IsAgainstTerms f p s.combination s.claim.entries (Free j)
IsVerdict f p s Integral = IsAgainstTerms f p s.combination s.claim.entries Integral
IsVerdict f p s Other = IsAgainstTerms f p s.combination s.claim.entries Other
IsVerdict f p s (Bound j) = IsAgainstTerms f p s.combination s.claim.entries (Bound j)
IsVerdict f p s Wide = IsAgainstTerms f p s.combination s.claim.entries Wide

-- the verdict by the right side that is shown
abbrev pub IsCompared : Moved → Frac → Verdict → Type 0
IsCompared (moved.Bound j) right v = v ≡ Bound j
IsCompared (moved.Right b) right v = ((v ≡ Accepted) × (rational right ≤ℚ rational b))
    ⊎ ((v ≡ Right b) × (rational right ≤ℚ rational b → ⊥))
