-- The rules on one group: whether all hold, and which is the first that fails (own).
use Rattle.std.specs.Prelude.{ℕ, ℤ, List}
use Rattle.std.specs.declared.option.Option.{Option}
use Rattle.gj_shape.specs.Elimination.{KeptRow}
use Rattle.gj_shape.specs.FunctionData.{FunctionData}
use Rattle.gj_proof.specs.declared.numbers.Numbers.{Numbers}
use Rattle.gj_check_groups.specs.declared.failure.GroupFailure.{GroupFailure}
use Rattle.gj_check_groups.specs.GroupOutcomes.{MeetsGroupBy, FailsGroupBy, IsOutcomeBy}
use Rattle.gj_limit_proof.specs.declared.claim.LimitPivotRow.{LimitPivotRow}
use Rattle.gj_limit_proof.specs.LimitRules.{MeetsLimitRow}

-- its rules hold, behind kept rows of n columns, for the row with which it begins
abbrev pub MeetsLimitGroup : Numbers → FunctionData → ℕ → List KeptRow → List ℤ → LimitPivotRow →
    Type 0
MeetsLimitGroup numbers f n kept begun one =
    MeetsGroupBy numbers (MeetsLimitRow f one.name) n kept begun one.reduce one.pivot

-- the first that fails, and how many lines below the first of the group
abbrev pub FailsLimitGroup : Numbers → FunctionData → ℕ → List KeptRow → List ℤ → LimitPivotRow →
    GroupFailure → Type 0
FailsLimitGroup numbers f n kept begun one failure =
    FailsGroupBy numbers (MeetsLimitRow f one.name) n kept begun one.reduce one.pivot failure

-- all hold, and the steps leave the row `after`; or this is the first failure
abbrev pub IsLimitGroupOutcome : Numbers → FunctionData → ℕ → List KeptRow → List ℤ →
    LimitPivotRow → List ℤ → Option GroupFailure → Type 0
IsLimitGroupOutcome numbers f n kept begun one after o =
    IsOutcomeBy numbers (MeetsLimitRow f one.name) n kept begun one.reduce one.pivot after o
