-- The rules on the groups of a proof that a function is extreme: what they say of the groups alone,
-- and which is the first that fails (own).
use Rattle.std.specs.Prelude.{ℕ, ℤ, ◌≡◌, List, ◌∷◌, ◌++◌, All, length}
use Rattle.std.specs.declared.option.Option.{Option}
use Rattle.std.specs.declared.option.Option.TheVariants.{Some, None}
use Rattle.gj_lemmas.specs.FirstThatFails.{IsFirstFailing}
use Rattle.gj_shape.specs.Elimination.{KeptRow}
use Rattle.gj_shape.specs.FunctionData.{FunctionData}
use Rattle.gj_theory.specs.TriangularRows.{present_row_by}
use Rattle.gj_proof.specs.declared.numbers.Numbers.{Numbers}
use Rattle.gj_proof.specs.declared.pivot.PivotRow.{PivotRow}
use Rattle.gj_proof.specs.PresentRows.{arithmetic_of, begun_row, rows_before_by}
use Rattle.gj_proof.specs.ProofText.{OwnLine, group_lines}
use Rattle.gj_proof.specs.Rules.{Demand, AtIndex, MeetsRow, MeetsReduce, MeetsSize, MeetsPivotBy, group_demands_by, line_of_demand}
use Rattle.gj_proof.specs.Rules.Demand.{row, reduce, size, pivot}
use Rattle.gj_check_groups.specs.declared.failure.GroupRule.{GroupRule}
use Rattle.gj_check_groups.specs.declared.failure.GroupRule.TheVariants.{Row, Reduce, Size, Pivot}
use Rattle.gj_check_groups.specs.declared.failure.GroupFailure.{GroupFailure}

-- ---- what the demands say

-- the g-th group has a property: of the rows that the groups before it keep, and the row that it
-- begins with
abbrev pub IfGroupOf : Numbers → FunctionData → (ℕ → ℕ) → ℕ → List PivotRow → ℕ →
    (List KeptRow → List ℤ → PivotRow → Type 0) → Type 0
IfGroupOf numbers f component n rows g P =
    AtIndex rows g (λ before one.
    P (rows_before_by (arithmetic_of numbers) f component n before)
    (begun_row (arithmetic_of numbers) f component n one.name) one)

-- the r-th step of the g-th group has a property: of the rows kept before, the row before the step,
-- and the column
abbrev pub IfStepOf : Numbers → FunctionData → (ℕ → ℕ) → ℕ → List PivotRow → ℕ → ℕ →
    (List KeptRow → List ℤ → ℕ → Type 0) → Type 0
IfStepOf numbers f component n rows g r P =
    IfGroupOf numbers f component n rows g (λ kept begun one. AtIndex one.reduce r (λ before column.
    P kept (present_row_by (arithmetic_of numbers) kept begun before) column))

-- what a demand on groups says of them, with these numbers of the components of intervals, below n
abbrev pub GroupHolds : Numbers → FunctionData → (ℕ → ℕ) → ℕ → List PivotRow → Demand → Type 0
GroupHolds numbers f component n rows (row g) = AtIndex rows g (λ before one. MeetsRow f one.name)
GroupHolds numbers f component n rows (reduce g r) =
    IfStepOf numbers f component n rows g r MeetsReduce
GroupHolds numbers f component n rows (size g r) = IfStepOf numbers f component n rows g r MeetsSize
GroupHolds numbers f component n rows (pivot g) =
    IfGroupOf numbers f component n rows g (λ kept begun one.
    MeetsPivotBy numbers n kept (present_row_by (arithmetic_of numbers) kept begun one.reduce)
    one.pivot)
GroupHolds numbers f component n rows _ = Unit {0}

-- ---- the first that fails

-- the demand asks for the rule
abbrev pub IsRuleOf : GroupRule → Demand → Type 0
IsRuleOf rule (row g) = rule ≡ Row
IsRuleOf rule (reduce g r) = rule ≡ Reduce
IsRuleOf rule (size g r) = rule ≡ Size
IsRuleOf rule (pivot g) = rule ≡ Pivot
IsRuleOf rule _ = ⊥

-- the first demand on the groups that fails has this rule, and is written with the line that stands
-- so many below their first
pub record IsFirstGroupFailure (numbers : Numbers) (f : FunctionData) (component : ℕ → ℕ) (n : ℕ)
    (rows : List PivotRow)
    (failure : GroupFailure) : Type 0 where
  pub before : List Demand
  pub demand : Demand
  pub first : IsFirstFailing (All (GroupHolds numbers f component n rows))
      (group_demands_by numbers 0 rows) before demand
  pub rule_is : IsRuleOf failure.rule demand
  pub above : List OwnLine
  pub line : OwnLine
  pub under : List OwnLine
  pub place : group_lines 0 rows ≡ above ++ line ∷ under
  pub line_is : line.name ≡ line_of_demand demand
  pub below : failure.below ≡ length above

-- all demands on the groups hold; or this is the first that fails
abbrev pub IsGroupsOutcome : Numbers → FunctionData → (ℕ → ℕ) → ℕ → List PivotRow →
    Option GroupFailure → Type 0
IsGroupsOutcome numbers f component n rows None =
    All (GroupHolds numbers f component n rows) (group_demands_by numbers 0 rows)
IsGroupsOutcome numbers f component n rows (Some failure) =
    IsFirstGroupFailure numbers f component n rows failure
