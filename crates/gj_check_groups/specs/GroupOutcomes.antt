-- The rules on one group: whether all hold, and which is the first that fails (own).
use Rattle.std.specs.Prelude.{ℕ, ℤ, ◌≡◌, ◌+◌, ◌<◌, List, length}
use Rattle.std.specs.declared.option.Option.{Option}
use Rattle.std.specs.declared.option.Option.TheVariants.{Some, None}
use Rattle.gj_shape.specs.Elimination.{KeptRow, entries_of, row_with_pivot, Passes}
use Rattle.gj_shape.specs.FunctionData.{FunctionData}
use Rattle.gj_theory.specs.TriangularRows.{present_row_by}
use Rattle.gj_proof.specs.declared.numbers.Numbers.{Numbers}
use Rattle.gj_proof.specs.PresentRows.{arithmetic_of}
use Rattle.gj_proof.specs.declared.pivot.PivotRow.{PivotRow}
use Rattle.gj_proof.specs.Rules.{AtIndex, MeetsRow, MeetsReduce, MeetsPivotBy}
use Rattle.gj_check_groups.specs.declared.failure.GroupRule.{GroupRule}
use Rattle.gj_check_groups.specs.declared.failure.GroupRule.TheVariants.{Row, Reduce, Size, Pivot}
use Rattle.gj_check_groups.specs.declared.failure.GroupFailure.{GroupFailure}

-- ---- one step

-- no number that the step marks passes; of residues it marks none
abbrev pub HasSize : Numbers → List KeptRow → List ℤ → ℕ → Type 0
HasSize numbers kept row c =
    Passes ((arithmetic_of numbers).marked (entries_of (row_with_pivot kept c)) row c) → ⊥

-- its rules hold
pub record MeetsStep (numbers : Numbers) (kept : List KeptRow) (row : List ℤ) (c : ℕ) : Type 0 where
  pub reduce : MeetsReduce kept row c
  pub size : HasSize numbers kept row c

-- the first of its rules that fails
abbrev pub FailsStep : Numbers → GroupRule → List KeptRow → List ℤ → ℕ → Type 0
FailsStep numbers Reduce kept row c = MeetsReduce kept row c → ⊥
FailsStep numbers Size kept row c = MeetsReduce kept row c × (HasSize numbers kept row c → ⊥)
FailsStep numbers _ kept row c = ⊥

-- they hold, and the step leaves the row `after`; or this is the first that fails
abbrev pub IsStepOutcome : Numbers → List KeptRow → List ℤ → ℕ → List ℤ → Option GroupRule → Type 0
IsStepOutcome numbers kept row c after None =
    MeetsStep numbers kept row c
    × (after ≡ (arithmetic_of numbers).step (entries_of (row_with_pivot kept c)) row c)
IsStepOutcome numbers kept row c after (Some rule) = FailsStep numbers rule kept row c

-- ---- all steps

-- the row after steps at these columns
abbrev pub stepped : Numbers → List KeptRow → List ℤ → List ℕ → List ℤ
stepped numbers kept begun columns = present_row_by (arithmetic_of numbers) kept begun columns

-- the rules of the step at the column c hold behind steps at other columns
abbrev pub MeetsStepBehind : Numbers → List KeptRow → List ℤ → List ℕ → ℕ → Type 0
MeetsStepBehind numbers kept begun before c =
    MeetsStep numbers kept (stepped numbers kept begun before) c

-- those of the steps before the r-th hold, and the first of its rules that fails is this one
pub record FailAt (numbers : Numbers) (kept : List KeptRow) (begun : List ℤ) (columns : List ℕ)
    (r : ℕ) (rule : GroupRule) : Type 0 where
  pub within : r < length columns
  pub before : (i : ℕ) → i < r → AtIndex columns i (MeetsStepBehind numbers kept begun)
  pub here : AtIndex columns r
      (λ before c. FailsStep numbers rule kept (stepped numbers kept begun before) c)

-- the first failure in the steps, on the line of one of them
pub record FailSteps (numbers : Numbers) (kept : List KeptRow) (begun : List ℤ) (columns : List ℕ)
    (failure : GroupFailure) : Type 0 where
  pub index : ℕ
  pub below : failure.below ≡ index + 1
  pub fails : FailAt numbers kept begun columns index failure.rule

-- all hold, and the steps leave the row `after`; or this is the first failure
abbrev pub IsStepsOutcome : Numbers → List KeptRow → List ℤ → List ℕ → List ℤ →
    Option GroupFailure → Type 0
IsStepsOutcome numbers kept begun columns after None =
    ((i : ℕ) → AtIndex columns i (MeetsStepBehind numbers kept begun))
    × (after ≡ stepped numbers kept begun columns)
IsStepsOutcome numbers kept begun columns after (Some failure) =
    FailSteps numbers kept begun columns failure

-- ---- a group

-- its rules hold, behind kept rows of n columns, for the row with which it begins, on which there is
-- a rule, and for these columns of its steps and of its pivot
pub record MeetsGroupBy (numbers : Numbers) (RowRule : Type 0) (n : ℕ) (kept : List KeptRow)
    (begun : List ℤ) (columns : List ℕ) (last : ℕ) : Type 0 where
  pub row : RowRule
  pub steps : (i : ℕ) → AtIndex columns i (MeetsStepBehind numbers kept begun)
  pub pivot : MeetsPivotBy numbers n kept (stepped numbers kept begun columns) last

-- the first that fails, and how many lines below the first of the group
pub data FailsGroupBy (numbers : Numbers) (RowRule : Type 0) (n : ℕ) (kept : List KeptRow)
    (begun : List ℤ) (columns : List ℕ) (last : ℕ) (failure : GroupFailure) : Type 0 where
  at_row : failure.below ≡ 0 → failure.rule ≡ Row → (RowRule → ⊥) →
      FailsGroupBy numbers RowRule n kept begun columns last failure
  at_step : RowRule → FailSteps numbers kept begun columns failure →
      FailsGroupBy numbers RowRule n kept begun columns last failure
  at_pivot : failure.below ≡ length columns + 1 → failure.rule ≡ Pivot → RowRule →
      ((i : ℕ) → AtIndex columns i (MeetsStepBehind numbers kept begun)) →
      (MeetsPivotBy numbers n kept (stepped numbers kept begun columns) last → ⊥) →
      FailsGroupBy numbers RowRule n kept begun columns last failure

-- all hold, and the steps leave the row `after`; or this is the first failure
abbrev pub IsOutcomeBy : Numbers → Type 0 → ℕ → List KeptRow → List ℤ → List ℕ → ℕ → List ℤ →
    Option GroupFailure → Type 0
IsOutcomeBy numbers RowRule n kept begun columns last after None =
    MeetsGroupBy numbers RowRule n kept begun columns last
    × (after ≡ stepped numbers kept begun columns)
IsOutcomeBy numbers RowRule n kept begun columns last after (Some failure) =
    FailsGroupBy numbers RowRule n kept begun columns last failure

-- the same of a group of a proof for a function
abbrev pub MeetsGroup : Numbers → FunctionData → ℕ → List KeptRow → List ℤ → PivotRow → Type 0
MeetsGroup numbers f n kept begun one =
    MeetsGroupBy numbers (MeetsRow f one.name) n kept begun one.reduce one.pivot

abbrev pub FailsGroup : Numbers → FunctionData → ℕ → List KeptRow → List ℤ → PivotRow →
    GroupFailure → Type 0
FailsGroup numbers f n kept begun one failure =
    FailsGroupBy numbers (MeetsRow f one.name) n kept begun one.reduce one.pivot failure

abbrev pub IsGroupOutcome : Numbers → FunctionData → ℕ → List KeptRow → List ℤ → PivotRow → List ℤ →
    Option GroupFailure → Type 0
IsGroupOutcome numbers f n kept begun one after o =
    IsOutcomeBy numbers (MeetsRow f one.name) n kept begun one.reduce one.pivot after o
