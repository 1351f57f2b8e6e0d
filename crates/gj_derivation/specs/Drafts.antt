-- Steps whose claims may be left open, and what is found for them (own).
use Rattle.std.specs.Prelude.{◌≡◌, ◌⊎◌, ◌<◌, ◌≤◌, ◌^◌, pos, ◌<ℤ◌, ℕ, Option, Some, None, List, [], ◌∷◌, ◌++◌, length, map, take, Any, slice_index_or}
use Rattle.std.specs.List.{AllZip, range_with_len}
use Rattle.gj_frac.specs.declared.Frac.{Frac}
use Rattle.gj_frac.specs.Fits.{FitsProduct}
use Rattle.gj_frac.specs.Fraction.{numerator}
use Rattle.gj_shape.specs.FunctionData.{FunctionData}
use Rattle.gj_fields.specs.Rational.{Rational, rational, neg_ℚ, ◌*ℚ◌}
use Rattle.gj_problem.specs.declared.problem.Column.{Column}
use Rattle.gj_problem.specs.declared.problem.Inequality.{Inequality}
use Rattle.gj_problem.specs.declared.problem.Problem.{Problem}
use Rattle.gj_problem.specs.Problems.{AreTermsWithin}
use Rattle.gj_problem.specs.RoundedCuts.{IsWideTimes}
use Rattle.gj_derivation.specs.declared.step.Combination.{Combination}
use Rattle.gj_derivation.specs.declared.step.Multiplier.{Multiplier}
use Rattle.gj_derivation.specs.declared.step.Step.{Step}
use Rattle.gj_derivation.specs.declared.step.Verdict.{Verdict}
use Rattle.gj_derivation.specs.declared.step.Verdict.TheVariants.{Accepted, Sign, Free, Integral, Other, Bound, Right, Wide}
use Rattle.gj_derivation.specs.declared.draft.Claim.{Claim}
use Rattle.gj_derivation.specs.declared.draft.Claim.TheVariants.{Absent, Terms, Given}
use Rattle.gj_derivation.specs.declared.draft.Derived.{Derived}
use Rattle.gj_derivation.specs.declared.draft.Derived.TheVariants.{All, Lost, Failed}
use Rattle.gj_derivation.specs.declared.draft.Draft.{Draft}
use Rattle.gj_derivation.specs.declared.draft.Filled.{Filled}
use Rattle.gj_derivation.specs.declared.draft.Filled.TheVariants as filled
use Rattle.gj_derivation.specs.declared.draft.Reached.{Reached}
use Rattle.gj_derivation.specs.declared.draft.Shown.{Shown}
use Rattle.gj_derivation.specs.declared.draft.Shown.TheVariants as shown
use Rattle.gj_derivation.specs.declared.terms.Found.{Found}
use Rattle.gj_derivation.specs.declared.terms.Found.TheVariants as found
use Rattle.gj_derivation.specs.Derivations.{Line, coefficient_in, times, IsBase, IsRightOf, IsShown, Follows, with_claim, IsDerivation}
use Rattle.gj_derivation.specs.Checks.{claimed_at, IsBaseless, IsAgainstTerms, IsVerdict, IsWideMoving}
use Rattle.gj_problem.specs.Moves.{IsGridCoefficient}

-- ---- the terms that are found

-- the coefficient that is found for one that is shown: the same, or a multiple of 1/n
abbrev pub IsFoundFor : Option ℕ → Column → Rational → Rational → Type 0
IsFoundFor None c x y = y ≡ x
IsFoundFor (Some n) c x y = IsGridCoefficient n c.lower c.upper x y

abbrev pub AreFoundFor : Option ℕ → List Column → (ℕ → Rational) → (ℕ → Rational) → Type 0
AreFoundFor grid columns xs ys =
    (j : ℕ) (c : Column) → j < length columns → c ≡ slice_index_or columns j c →
    IsFoundFor grid c (xs j) (ys j)

-- the first column for which none is found: it has no bounds, and is off the grid
pub record IsFirstNotFound (grid : Option ℕ) (columns : List Column) (xs : ℕ → Rational)
    (j : ℕ) : Type 0 where
  pub below : j < length columns
  pub column : Column
  pub is : column ≡ slice_index_or columns j column
  pub ys : ℕ → Rational
  pub found_before : AreFoundFor grid (take j columns) xs ys
  pub none : (y : Rational) → IsFoundFor grid column (xs j) y → ⊥

abbrev pub IsFoundOrNone : Option ℕ → Column → Rational → Option Frac → Type 0
IsFoundOrNone grid c x (Some y) = IsFoundFor grid c x (rational y)
IsFoundOrNone grid c x None = (y : Rational) → IsFoundFor grid c x y → ⊥

abbrev pub IsFound : Option ℕ → List Column → (ℕ → Rational) → Found → Type 0
IsFound grid columns xs (found.Terms ys) = (length ys.items ≡ length columns)
    × AreFoundFor grid columns xs (claimed_at ys.items)
IsFound grid columns xs (found.Bound j) = IsFirstNotFound grid columns xs j

-- ---- when a number does not fit

-- to bring x to the grid by these bounds takes a number that does not fit
abbrev pub IsWideGrid : Option ℕ → Option Frac → Option Frac → Frac → Type 0
IsWideGrid None lower upper x = ⊥
IsWideGrid (Some n) (Some l) upper x = (m : Frac) × (rational m ≡ neg_ℚ (rational x))
    × IsWideTimes n m
IsWideGrid (Some n) None upper x = IsWideTimes n x

-- the factor times the coefficient does not fit, or a number that brings it to the grid
abbrev pub IsWideFoundAt : Option ℕ → Column → Frac → Frac → Type 0
IsWideFoundAt grid c factor coefficient = (FitsProduct factor coefficient → ⊥)
    ⊎ ((x : Frac) × (rational x ≡ rational factor *ℚ rational coefficient)
    × IsWideGrid grid c.lower c.upper x)

-- so it is at some column, when those before it are found, or none is found there and the index of
-- the column is 2^32 or more
pub record IsWideFound (grid : Option ℕ) (columns : List Column) (factor : Frac)
    (base : Line) : Type 0 where
  pub index : ℕ
  pub below : index < length columns
  pub column : Column
  pub is : column ≡ slice_index_or columns index column
  pub ys : ℕ → Rational
  pub found_before : AreFoundFor grid (take index columns) (times factor base) ys
  pub coefficient : Frac
  pub coefficient_is : rational coefficient ≡ base.coefficient index
  pub wide : IsWideFoundAt grid column factor coefficient
      ⊎ (((y : Rational) → IsFoundFor grid column (times factor base index) y → ⊥)
      × (2 ^ 32 ≤ index))

-- a number of the terms that are found does not fit, or all are found, and a number of the moves to
-- them does not fit, or there are more than 2^32 columns
abbrev pub IsWideFinding : Option ℕ → List Column → Frac → Line → Type 0
IsWideFinding grid columns factor base = IsWideFound grid columns factor base
    ⊎ ((ys : ℕ → Rational) × AreFoundFor grid columns (times factor base) ys
    × (IsWideMoving columns factor base ys ⊎ (2 ^ 32 < length columns)))

-- the claim that is found for a base, or the first column for which no coefficient is found
abbrev pub IsFoundClaim : Option ℕ → List Column → Frac → Line → Inequality → Type 0
IsFoundClaim grid columns factor base q = AreTermsWithin 0 (length columns) q.entries
    × AreFoundFor grid columns (times factor base) (coefficient_in q.entries)
    × IsRightOf columns factor base (coefficient_in q.entries) (rational q.right)

abbrev pub IsFoundIn : Option ℕ → List Column → Frac → Line → Filled → Type 0
IsFoundIn grid columns factor base (filled.Claim q) = IsFoundClaim grid columns factor base q
IsFoundIn grid columns factor base (filled.Against v) = (j : ℕ) × (v ≡ Bound j)
    × IsFirstNotFound grid columns (times factor base) j

-- ---- one draft

-- the claim of a draft: the terms that are found, or given, with the right side that is shown for
-- them, or all of it, if it follows
abbrev pub IsClaimOf : Option FunctionData → Option ℕ → Problem → Combination → Claim → Inequality →
    Type 0
IsClaimOf f grid p c Absent q = (pos 0 <ℤ numerator c.factor)
    × (base : Line) × IsBase f p c base × IsFoundClaim grid p.columns c.factor base q
IsClaimOf f grid p c (Terms entries) q = (q.entries ≡ entries)
    × IsShown f p (record { combination = c; claim = q }) (rational q.right)
IsClaimOf f grid p c (Given claim) q = (q ≡ claim) × Follows f p (record {
  combination = c;
  claim = q;
})

-- what stands against an absent claim: the base, the first column for which no coefficient is
-- found, or a number
abbrev pub IsAgainstFinding : Option FunctionData → Option ℕ → Problem → Combination → Verdict →
    Type 0
IsAgainstFinding f grid p c (Bound j) =
    (base : Line) × IsBase f p c base × IsFirstNotFound grid p.columns (times c.factor base) j
IsAgainstFinding f grid p c Wide = IsBaseless f p c Wide
    ⊎ ((base : Line) × IsBase f p c base × IsWideFinding grid p.columns c.factor base)
IsAgainstFinding f grid p c (Sign i) = IsBaseless f p c (Sign i)
IsAgainstFinding f grid p c (Free j) = IsBaseless f p c (Free j)
IsAgainstFinding f grid p c Integral = IsBaseless f p c Integral
IsAgainstFinding f grid p c Other = IsBaseless f p c Other
IsAgainstFinding f grid p c Accepted = ⊥
IsAgainstFinding f grid p c (Right b) = ⊥

abbrev pub IsAgainst : Option FunctionData → Option ℕ → Problem → Combination → Claim → Verdict →
    Type 0
IsAgainst f grid p c Absent v = IsAgainstFinding f grid p c v
IsAgainst f grid p c (Terms entries) v = IsAgainstTerms f p c entries v
IsAgainst f grid p c (Given q) v = IsVerdict f p (record { combination = c; claim = q }) v
    × (v ≡ Accepted → ⊥)

abbrev pub IsFilled : Option FunctionData → Option ℕ → Problem → Combination → Claim → Filled →
    Type 0
IsFilled f grid p c claim (filled.Claim q) = IsClaimOf f grid p c claim q
IsFilled f grid p c claim (filled.Against v) = IsAgainst f grid p c claim v

-- the step of a combination with this claim, or what stands against it
abbrev pub IsShownBy : Option FunctionData → Option ℕ → Problem → Combination → Claim → Shown →
    Type 0
IsShownBy f grid p c claim (shown.Step s) = (s.combination ≡ c) × IsClaimOf f grid p c claim s.claim
IsShownBy f grid p c claim (shown.Against v) = IsAgainst f grid p c claim v

-- ---- drafts in their order

-- at first each line of the drafts is one of the problem
abbrev pub begun : Problem → Reached
begun p = record { problem = p; lines = map Some (range_with_len 0 (length p.constraints)) }

-- the claim of a step is one more constraint; a draft that is left out has no line
abbrev pub reach : Reached → Shown → Reached
reach r (shown.Step s) = record {
  problem = with_claim r.problem s.claim;
  lines = r.lines ++ Some (length r.problem.constraints) ∷ [];
}
reach r (shown.Against v) = record { problem = r.problem; lines = r.lines ++ None ∷ [] }

abbrev pub reach_all : Reached → List Shown → Reached
reach_all r [] = r
reach_all r (x ∷ xs) = reach_all (reach r x) xs

-- line i of the drafts
abbrev pub line_at : Reached → ℕ → Option ℕ
line_at r i = slice_index_or r.lines i None

-- the combination with the lines of the problem that is reached in the place of those of the drafts
pub record IsPlaced (r : Reached) (c placed : Combination) : Type 0 where
  pub rule : placed.rule ≡ c.rule
  pub multipliers : AllZip (λ (m n : Multiplier). (line_at r m.line ≡ Some n.line)
      × (n.value ≡ m.value)) c.multipliers placed.multipliers
  pub at_upper : placed.at_upper ≡ c.at_upper
  pub factor : placed.factor ≡ c.factor

abbrev pub IsNext : Option FunctionData → Option ℕ → Reached → Draft → Shown → Type 0
IsNext f grid r d x = (c : Combination) × IsPlaced r d.combination c
    × IsShownBy f grid r.problem c d.claim x

-- what stands against a claim that is given ends the steps
abbrev pub Ends : Claim → Shown → Type 0
Ends Absent x = ⊥
Ends (Terms entries) x = ⊥
Ends (Given q) (shown.Step s) = ⊥
Ends (Given q) (shown.Against v) = Unit {0}

-- what the drafts show, one after another
abbrev pub AreShown : Option FunctionData → Option ℕ → Reached → List Draft → List Shown → Type 0
AreShown f grid r [] [] = Unit {0}
AreShown f grid r (d ∷ drafts) (x ∷ xs) = IsNext f grid r d x × (Ends d.claim x → ⊥)
    × AreShown f grid (reach r x) drafts xs
AreShown f grid r [] (x ∷ xs) = ⊥
AreShown f grid r (d ∷ drafts) [] = ⊥

-- the draft with this index, and what those before it show
pub record IsReached (f : Option FunctionData) (grid : Option ℕ) (p : Problem) (drafts : List Draft)
    (i : ℕ) (shown : List Shown) (r : Reached)
    (draft : Draft) : Type 0 where
  pub before : List Draft
  pub after : List Draft
  pub place : drafts ≡ before ++ draft ∷ after
  pub index : i ≡ length before
  pub are_shown : AreShown f grid (begun p) before shown
  pub reached : r ≡ reach_all (begun p) shown

-- a line is named that is left out, or that is not reached
abbrev pub IsLost : Reached → Combination → Type 0
IsLost r c = Any (λ (m : Multiplier). line_at r m.line ≡ None) c.multipliers

abbrev pub IsDerivedBy : Option FunctionData → Option ℕ → Problem → List Draft → Derived → Type 0
IsDerivedBy f grid p drafts (All xs) = AreShown f grid (begun p) drafts xs
IsDerivedBy f grid p drafts (Lost i xs) = (r : Reached) × (d : Draft)
    × IsReached f grid p drafts i xs r d × IsLost r d.combination
IsDerivedBy f grid p drafts (Failed failure xs) = (r : Reached) × (d : Draft)
    × IsReached f grid p drafts failure.step xs r d
    × IsNext f grid r d (shown.Against failure.verdict)
    × Ends d.claim (shown.Against failure.verdict)

-- ---- where a number does not fit

-- of the drafts that are told of, one after another, `Wide` is told where a number does not fit
abbrev pub TellWide : Option FunctionData → Option ℕ → Reached → List Draft → List Shown → Type 0
TellWide f grid r drafts [] = Unit {0}
TellWide f grid r [] (x ∷ xs) = ⊥
TellWide f grid r (d ∷ drafts) (x ∷ xs) =
    ((c : Combination) → IsPlaced r d.combination c → IsAgainst f grid r.problem c d.claim Wide →
    x ≡ shown.Against Wide)
    × TellWide f grid (reach r x) drafts xs

-- what is told of the drafts; that of the one that fails comes last
abbrev pub told_by : Derived → List Shown
told_by (All xs) = xs
told_by (Lost i xs) = xs
told_by (Failed failure xs) = xs ++ shown.Against failure.verdict ∷ []

-- ---- the steps that come back

abbrev pub steps_of : List Shown → List Step
steps_of [] = []
steps_of (shown.Step s ∷ xs) = s ∷ steps_of xs
steps_of (shown.Against v ∷ xs) = steps_of xs

abbrev pub DerivedIsDerivation : Option FunctionData → Problem → Derived → Type 0
DerivedIsDerivation f p (All xs) = IsDerivation f p (steps_of xs)
DerivedIsDerivation f p (Lost i xs) = Unit {0}
DerivedIsDerivation f p (Failed failure xs) = Unit {0}
