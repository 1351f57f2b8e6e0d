-- The rules on the groups of a proof that a function that jumps is extreme: what they say of the
-- groups alone, and which is the first that fails (own).
use Rattle.std.specs.Prelude.{ℕ, ℤ, ◌≡◌, List, ◌∷◌, ◌++◌, All, length}
use Rattle.std.specs.declared.option.Option.{Option}
use Rattle.std.specs.declared.option.Option.TheVariants.{Some, None}
use Rattle.gj_lemmas.specs.FirstThatFails.{IsFirstFailing}
use Rattle.gj_shape.specs.Elimination.{KeptRow}
use Rattle.gj_shape.specs.FunctionData.{FunctionData}
use Rattle.gj_theory.specs.TriangularRows.{present_row_by}
use Rattle.gj_proof.specs.declared.numbers.Numbers.{Numbers}
use Rattle.gj_proof.specs.PresentRows.{arithmetic_of}
use Rattle.gj_proof.specs.ProofText.{OwnLine}
use Rattle.gj_proof.specs.Rules.{Demand, AtIndex, MeetsReduce, MeetsSize, MeetsPivotBy, line_of_demand}
use Rattle.gj_proof.specs.Rules.Demand.{row, reduce, size, pivot}
use Rattle.gj_check_groups.specs.declared.failure.GroupFailure.{GroupFailure}
use Rattle.gj_check_groups.specs.Groups.{IsRuleOf}
use Rattle.gj_limit_system.specs.Unknowns.{columns_for}
use Rattle.gj_limit_proof.specs.declared.claim.LimitPivotRow.{LimitPivotRow}
use Rattle.gj_limit_proof.specs.LimitRules.{MeetsLimitRow, IfGroupOf, group_demands_by}
use Rattle.gj_limit_proof.specs.LimitText.{group_lines}

-- ---- what the demands say

-- the r-th step of the g-th group has a property: of the rows kept before, the row before the step,
-- and the column
abbrev pub IfStepOf : Numbers → FunctionData → (ℕ → ℕ) → ℕ → List LimitPivotRow → ℕ → ℕ →
    (List KeptRow → List ℤ → ℕ → Type 0) → Type 0
IfStepOf numbers f component n rows g r P =
    IfGroupOf numbers f component n rows g (λ kept begun one. AtIndex one.reduce r (λ before column.
    P kept (present_row_by (arithmetic_of numbers) kept begun before) column))

-- what a demand on groups says of them, with these numbers of the components of intervals, over n
-- columns
abbrev pub LimitGroupHolds : Numbers → FunctionData → (ℕ → ℕ) → ℕ → List LimitPivotRow → Demand →
    Type 0
LimitGroupHolds numbers f component n rows (row g) =
    AtIndex rows g (λ before one. MeetsLimitRow f one.name)
LimitGroupHolds numbers f component n rows (reduce g r) =
    IfStepOf numbers f component n rows g r MeetsReduce
LimitGroupHolds numbers f component n rows (size g r) =
    IfStepOf numbers f component n rows g r MeetsSize
LimitGroupHolds numbers f component n rows (pivot g) =
    IfGroupOf numbers f component n rows g (λ kept begun one.
    MeetsPivotBy numbers n kept (present_row_by (arithmetic_of numbers) kept begun one.reduce)
    one.pivot)
LimitGroupHolds numbers f component n rows _ = Unit {0}

-- ---- the first that fails

-- the first demand on the groups that fails has this rule, and is written with the line that stands
-- so many below their first
pub record IsFirstLimitGroupFailure (numbers : Numbers) (f : FunctionData) (component : ℕ → ℕ)
    (n : ℕ) (rows : List LimitPivotRow)
    (failure : GroupFailure) : Type 0 where
  pub before : List Demand
  pub demand : Demand
  pub first : IsFirstFailing (All (LimitGroupHolds numbers f component n rows))
      (group_demands_by numbers 0 rows) before demand
  pub rule_is : IsRuleOf failure.rule demand
  pub above : List OwnLine
  pub line : OwnLine
  pub under : List OwnLine
  pub place : group_lines 0 rows ≡ above ++ line ∷ under
  pub line_is : line.name ≡ line_of_demand demand
  pub below : failure.below ≡ length above

-- all demands on the groups hold, over the columns for so many components; or this is the first
-- that fails
abbrev pub IsLimitGroupsOutcome : Numbers → FunctionData → (ℕ → ℕ) → ℕ → List LimitPivotRow →
    Option GroupFailure → Type 0
IsLimitGroupsOutcome numbers f component count rows None =
    All (LimitGroupHolds numbers f component (columns_for f.order count) rows)
    (group_demands_by numbers 0 rows)
IsLimitGroupsOutcome numbers f component count rows (Some failure) =
    IsFirstLimitGroupFailure numbers f component (columns_for f.order count) rows failure
