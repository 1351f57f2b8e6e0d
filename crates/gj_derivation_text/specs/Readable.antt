-- What each derivation has that a text tells (own).
use Rattle.std.specs.Prelude.{ℕ, ◌+◌, ◌≡◌, pos, ◌<ℤ◌, ◌<◌, ◌≤◌, Option, IsSome, IfSome, List, [], ◌∷◌, ◌++◌, All, Contains, length, map}
use Rattle.gj_frac.specs.Fraction.{numerator}
use Rattle.gj_shape.specs.FunctionData.{FunctionData, IsWithinBounds}
use Rattle.gj_problem.specs.declared.problem.Entry.{Entry}
use Rattle.gj_problem.specs.declared.problem.Problem.{Problem}
use Rattle.gj_derivation.specs.declared.draft.Claim.{Claim}
use Rattle.gj_derivation.specs.declared.draft.Claim.TheVariants.{Absent, Terms, Given}
use Rattle.gj_derivation.specs.declared.draft.Draft.{Draft}
use Rattle.gj_derivation.specs.declared.step.Combination.{Combination}
use Rattle.gj_derivation.specs.declared.step.Multiplier.{Multiplier}
use Rattle.gj_derivation.specs.declared.step.StepRule.TheVariants.{Linear, Function}
use Rattle.gj_problem_text.specs.CutText.{AreNames}
use Rattle.gj_problem_text.specs.PrintedInput.{all_entries}
use Rattle.gj_problem_text.specs.Tasks.{most_columns, most_constraints, most_entries}
use Rattle.gj_derivation_text.specs.DerivationInputs.{as_draft}
use Rattle.gj_derivation_text.specs.DerivationText.{most_steps}
use Rattle.gj_derivation_text.specs.declared.drafts.Drafts.{Drafts}
use Rattle.gj_derivation_text.specs.declared.input.DerivationInput.{DerivationInput}

-- ---- steps

-- each is below n, and none is one of these or stands twice
abbrev pub AreNewBelow : ℕ → List ℕ → List ℕ → Type 0
AreNewBelow n taken [] = Unit {0}
AreNewBelow n taken (i ∷ indices) = (i < n) × (Contains taken i → ⊥)
    × AreNewBelow n (taken ++ i ∷ []) indices

-- each is below n, and none stands twice
abbrev pub AreIndices : ℕ → List ℕ → Type 0
AreIndices n indices = AreNewBelow n [] indices

-- the combination has a factor above 0, and a function if it asks for one; it names columns, of
-- which there are so many, and lines before it, each once; a linear one turns no column
pub record IsReadable (f : Option FunctionData) (columns lines : ℕ) (c : Combination) : Type 0 where
  pub factor : pos 0 <ℤ numerator c.factor
  pub function : c.rule ≡ Function → IsSome f
  pub multipliers : AreIndices lines (map (λ (m : Multiplier). m.line) c.multipliers)
  pub at_upper : AreIndices columns c.at_upper
  pub none_turned : c.rule ≡ Linear → c.at_upper ≡ []

-- the terms name columns, each once
abbrev pub AreReadableTerms : ℕ → List Entry → Type 0
AreReadableTerms columns entries = AreIndices columns (map (λ (e : Entry). e.column) entries)

abbrev pub IsReadableClaim : ℕ → Claim → Type 0
IsReadableClaim columns Absent = Unit {0}
IsReadableClaim columns (Terms entries) = AreReadableTerms columns entries
IsReadableClaim columns (Given q) = AreReadableTerms columns q.entries

pub record IsReadableDraft (f : Option FunctionData) (columns lines : ℕ) (d : Draft) : Type 0 where
  pub combination : IsReadable f columns lines d.combination
  pub claim : IsReadableClaim columns d.claim

-- each is readable behind so many lines, and those before it
abbrev pub AreReadableDrafts : Option FunctionData → ℕ → ℕ → List Draft → Type 0
AreReadableDrafts f columns lines [] = Unit {0}
AreReadableDrafts f columns lines (d ∷ drafts) =
    IsReadableDraft f columns lines d × AreReadableDrafts f columns (lines + 1) drafts

-- ---- the whole

-- the columns and the constraints have these names; the problem is within the limits, and its
-- constraints speak of its columns
pub record IsReadableProblem (columns : List (List ℕ)) (p : Problem) : Type 0 where
  pub names : AreNames columns
  pub column_count : length columns ≡ length p.columns
  pub columns_few : length columns ≤ most_columns
  pub constraints_few : length p.constraints ≤ most_constraints
  pub known : All (λ e. e.column < length columns) (all_entries p)
  pub entries_few : length (all_entries p) ≤ most_entries

-- the steps are few, and speak of the columns and of the lines before them; all lines have names
-- that are different
pub record AreReadableSteps (f : Option FunctionData) (columns constraints : ℕ)
    (lines : List (List ℕ)) (steps : List Draft) : Type 0 where
  pub names : AreNames lines
  pub count : length lines ≡ constraints + length steps
  pub few : length steps ≤ most_steps
  pub readable : AreReadableDrafts f columns constraints steps

pub record AreReadable (f : Option FunctionData) (s : Drafts) : Type 0 where
  pub function : IfSome f IsWithinBounds
  pub problem : IsReadableProblem s.task.names s.task.problem
  pub steps : AreReadableSteps f (length s.task.names) (length s.task.problem.constraints) s.lines
      s.steps
  pub grid : IfSome s.task.grid (λ n. 0 < n)
  pub left : length s.left ≡ length s.steps

pub record IsReadableDerivation (d : DerivationInput) : Type 0 where
  pub function : IfSome d.function IsWithinBounds
  pub problem : IsReadableProblem d.columns d.problem
  pub steps : AreReadableSteps d.function (length d.columns) (length d.problem.constraints) d.lines
      (map as_draft d.steps)
