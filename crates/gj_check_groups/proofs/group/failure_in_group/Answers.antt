use Rattle.std.proofs.Common.{◌≡◌, ◌↔◌, ℕ, ◌+◌, ℤ, Bool, false, IsTrue, List, length, refl, sym, ap, subst, subst₂, ◌∙◌, arith}
use Rattle.std.specs.Prelude.{None}
use Rattle.gj_shape.specs.Elimination.{KeptRow}
use Rattle.gj_shape.specs.FunctionData.{FunctionData}
use Rattle.gj_proof.specs.declared.numbers.Numbers.{Numbers}
use Rattle.gj_proof.specs.declared.pivot.PivotRow.{PivotRow}
use Rattle.gj_proof.specs.ProofText.{reduction_lines}
use Rattle.gj_proof.specs.Rules.{AtIndex, MeetsRow, MeetsPivotBy}
use Rattle.gj_proof.proofs.LineCounts.{length-reductions}
use Rattle.gj_check_groups.specs.declared.failure.GroupRule.TheVariants.{Pivot}
use Rattle.gj_check_groups.specs.GroupOutcomes.{stepped, MeetsStepBehind, IsStepsOutcome, FailsGroup}
use Rattle.gj_check_groups.specs.GroupOutcomes.FailsGroupBy.{at_pivot}
use Rattle.gj_check_groups.proofs.group.failure_in_group.Goals as goal

-- the rule on the pivot fails behind the steps
pivot_fails : (numbers : Numbers) (f : FunctionData) (n m : ℕ) (kept : List KeptRow)
    (begun after : List ℤ) (one : PivotRow)
    (columns : List ℕ) (below : ℕ) (meets : Bool) → columns ≡ one.reduce → m ≡ n →
    MeetsRow f one.name →
    below ≡ 1 + length (reduction_lines 0 0 columns) →
    IsStepsOutcome numbers kept begun columns after None → meets ≡ false →
    (IsTrue meets ↔ MeetsPivotBy numbers m kept after one.pivot) →
    FailsGroup numbers f n kept begun one (record { below = below; rule = Pivot })
pivot_fails numbers f n m kept begun after one columns below meets columns_are same row below_is
    (steps, after_is) fails pivot =
    let lines = length-reductions 0 0 columns in
    let long = ap length columns_are in
    at_pivot (omega arith) refl row
    (subst (λ (cs : List ℕ). (i : ℕ) → AtIndex cs i (MeetsStepBehind numbers kept begun))
    columns_are steps)
    (λ holds.
    let yes : IsTrue meets =
    pivot.1 (subst₂ (λ (k : ℕ) (xs : List ℤ). MeetsPivotBy numbers k kept xs one.pivot) (sym same)
    (ap (stepped numbers kept begun) (sym columns_are) ∙ sym after_is) holds) in
    (cc))

pub returns-then-not-meets_pivot_by-clause-outcome :
    goal.returns-then-not-meets_pivot_by-clause-outcome
returns-then-not-meets_pivot_by-clause-outcome c kept rows =
    pivot_fails c.args.numbers c.args.shape.now (length c.args.row.now)
    (length c.failure_in_steps.new.row) kept c.args.row.now
    c.failure_in_steps.new.row c.args.group.now c.as_slice-columns.result.now
    c.lines_with_steps.result c.meets_pivot_by.result
    c.as_slice-columns.ensures c.failure_in_steps.auto.row
    (c.meets_row.ensures.0 c.if-not-meets_row.false) c.lines_with_steps.ensures
    (c.in_default.ensures.outcome kept rows) c.if-not-meets_pivot_by.true
    (c.meets_pivot_by.ensures kept rows)
