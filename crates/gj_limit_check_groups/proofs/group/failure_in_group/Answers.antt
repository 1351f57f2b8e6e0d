use Rattle.std.proofs.Common.{◌≡◌, ◌↔◌, ℕ, ◌+◌, ℤ, Bool, true, false, IsTrue, List, length, refl, sym, ap, subst, arith}
use Rattle.std.specs.Prelude.{Option, None, Some}
use Rattle.gj_shape.specs.Elimination.{KeptRow}
use Rattle.gj_shape.specs.FunctionData.{FunctionData}
use Rattle.gj_sparse_elim.specs.declared.entry.Entry.{Entry}
use Rattle.gj_sparse_elim.specs.Sparse.{dense}
use Rattle.gj_proof.specs.declared.numbers.Numbers.{Numbers}
use Rattle.gj_proof.specs.ProofText.{reduction_lines}
use Rattle.gj_proof.specs.Rules.{MeetsPivotBy}
use Rattle.gj_proof.proofs.LineCounts.{length-reductions}
use Rattle.gj_check_groups.specs.declared.failure.GroupFailure.{GroupFailure}
use Rattle.gj_check_groups.specs.declared.failure.GroupRule.TheVariants.{Pivot}
use Rattle.gj_check_groups.specs.GroupOutcomes.{IsStepsOutcome}
use Rattle.gj_limit_proof.specs.declared.claim.LimitPivotRow.{LimitPivotRow}
use Rattle.gj_limit_proof.specs.LimitRules.{MeetsLimitRow}
use Rattle.gj_limit_check_groups.specs.LimitGroupOutcomes.{FailsLimitGroup, IsLimitGroupOutcome}
use Rattle.gj_check_groups.specs.GroupOutcomes.FailsGroupBy.{at_step, at_pivot}
use Rattle.gj_limit_check_groups.proofs.group.failure_in_group.Goals as goal

-- what the steps leave, for the columns as they are read
steps_are : (numbers : Numbers) (kept : List KeptRow) (begun after : List ℤ)
    (columns given : List ℕ) (o p : Option GroupFailure) →
    given ≡ columns → o ≡ p → IsStepsOutcome numbers kept begun given after o →
    IsStepsOutcome numbers kept begun columns after p
steps_are numbers kept begun after columns given o p same is h =
    subst (λ (cs : List ℕ). IsStepsOutcome numbers kept begun cs after p) same
    (subst (IsStepsOutcome numbers kept begun given after) is h)

pub returns-in-Some-clause-outcome : goal.returns-in-Some-clause-outcome
returns-in-Some-clause-outcome c kept rows =
    let n = length c.args.table.now in
    at_step (c.meets_row.ensures.0 c.if-not-meets_row.false)
    (steps_are c.args.numbers kept (dense n c.args.row.now.entries.items)
    (dense n c.failure_in_steps.new.row.entries.items)
    c.args.group.now.reduce c.as_slice-columns.result.now c.in_ok-failure.field-0
    (Some c.in-Some.failure)
    c.as_slice-columns.ensures c.in-Some.is (c.in_ok-failure.ensures.outcome kept rows))

-- the last rule, behind the steps
tested : (numbers : Numbers) (f : FunctionData) (n : ℕ) (kept : List KeptRow) (begun after : List ℤ)
    (one : LimitPivotRow)
    (below : ℕ) (meets : Bool) → MeetsLimitRow f one.name → below ≡ length one.reduce + 1 →
    IsStepsOutcome numbers kept begun one.reduce after None → meets ≡ false →
    IsTrue meets ↔ MeetsPivotBy numbers n kept after one.pivot →
    FailsLimitGroup numbers f n kept begun one (record { below = below; rule = Pivot })
tested numbers f n kept begun after one below meets row below_is (steps, after_is) fails pivot =
    at_pivot below_is refl row steps
    (λ holds.
    let no : IsTrue false = subst IsTrue fails
    (pivot.1 (subst (λ (xs : List ℤ). MeetsPivotBy numbers n kept xs one.pivot)
    (sym after_is) holds)) in absurd cc)

lines_are : (below : ℕ) (columns given : List ℕ) → given ≡ columns →
    below ≡ 1 + length (reduction_lines 0 0 given) →
    below ≡ length columns + 1
lines_are below columns given same is =
    let lines = length-reductions 0 0 given in let long = ap length same in omega arith

pub returns-then-not-meets_pivot_by-clause-outcome :
    goal.returns-then-not-meets_pivot_by-clause-outcome
returns-then-not-meets_pivot_by-clause-outcome c kept rows =
    let n = length c.args.table.now in
    let after = dense n c.failure_in_steps.new.row.entries.items in
    tested c.args.numbers c.args.shape.now n kept (dense n c.args.row.now.entries.items) after
    c.args.group.now
    c.lines_with_steps.result c.meets_pivot_by.result
    (c.meets_row.ensures.0 c.if-not-meets_row.false)
    (lines_are c.lines_with_steps.result c.args.group.now.reduce c.as_slice-columns.result.now
    c.as_slice-columns.ensures
    c.lines_with_steps.ensures)
    (steps_are c.args.numbers kept (dense n c.args.row.now.entries.items) after
    c.args.group.now.reduce
    c.as_slice-columns.result.now c.in_ok-failure.field-0 None c.as_slice-columns.ensures
    c.in_default.is
    (c.in_ok-failure.ensures.outcome kept rows)) c.if-not-meets_pivot_by.true
    (subst (λ (xs : List Entry). IsTrue c.meets_pivot_by.result ↔ MeetsPivotBy c.args.numbers n kept
    (dense n xs) c.args.group.now.pivot)
    c.as_slice.ensures.value (c.meets_pivot_by.ensures kept rows))

-- all hold
holds : (numbers : Numbers) (f : FunctionData) (n : ℕ) (kept : List KeptRow) (begun after : List ℤ)
    (one : LimitPivotRow)
    (meets : Bool) → MeetsLimitRow f one.name →
    IsStepsOutcome numbers kept begun one.reduce after None → meets ≡ true →
    IsTrue meets ↔ MeetsPivotBy numbers n kept after one.pivot →
    IsLimitGroupOutcome numbers f n kept begun one after None
holds numbers f n kept begun after one meets row (steps, after_is) met pivot = (
  record {
    row = row;
    steps = steps;
    pivot = subst (λ (xs : List ℤ). MeetsPivotBy numbers n kept xs one.pivot) after_is
        (pivot.0 met);
  },
  after_is,
)

pub returns-clause-outcome : goal.returns-clause-outcome
returns-clause-outcome c kept rows =
    let n = length c.args.table.now in
    let after = dense n c.failure_in_steps.new.row.entries.items in
    holds c.args.numbers c.args.shape.now n kept (dense n c.args.row.now.entries.items) after
    c.args.group.now
    c.meets_pivot_by.result (c.meets_row.ensures.0 c.if-not-meets_row.false)
    (steps_are c.args.numbers kept (dense n c.args.row.now.entries.items) after
    c.args.group.now.reduce
    c.as_slice-columns.result.now c.in_ok-failure.field-0 None c.as_slice-columns.ensures
    c.in_default.is
    (c.in_ok-failure.ensures.outcome kept rows)) c.if-not-meets_pivot_by.false
    (subst (λ (xs : List Entry). IsTrue c.meets_pivot_by.result ↔ MeetsPivotBy c.args.numbers n kept
    (dense n xs) c.args.group.now.pivot)
    c.as_slice.ensures.value (c.meets_pivot_by.ensures kept rows))
