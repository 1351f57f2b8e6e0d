use Rattle.std.proofs.Common.{length, get_or, take, subst, arith}
use Rattle.std.specs.Prelude.{Option, IfNone}
use Rattle.std.proofs.lemmas.List.{get_or_default, length-take-le}
use Rattle.gj_sparse_elim.specs.Sparse.{dense}
use Rattle.gj_proof.proofs.LineCounts.{length-reductions}
use Rattle.gj_check_groups.specs.declared.failure.GroupRule.{GroupRule}
use Rattle.gj_check_groups.specs.GroupOutcomes.{IsStepOutcome}
use Rattle.gj_check_groups.proofs.StepsInTurn.{stepped_fails, stepped_more, stepped_all}
use Rattle.gj_limit_check_groups.specs.SparseRows.{IsSparseRow}
use Rattle.gj_limit_check_groups.proofs.group.failure_in_steps.Goals as goal

pub returns-in-Some-clause-outcome : goal.returns-in-Some-clause-outcome
returns-in-Some-clause-outcome c kept rows =
    let n = length c.args.table.now in
    let columns = c.args.columns.now in
    let r = c.loop-place.place in
    let row = dense n c.loop-place.row.entries.items in
    record {
      index = r;
      below =
          let above = length-reductions 0 0 (take r columns) in
          let long = length-take-le r columns (omega arith) in
          let is = c.lines_with_steps.ensures in
          omega arith;
      fails = stepped_fails c.args.numbers kept (dense n c.args.row.now.entries.items) columns r
          (get_or columns r 0) row
          c.in-Some.rule (c.loop-place.invariant.stepped kept rows) (omega arith)
          (get_or_default columns r 0 (get_or columns r 0) (omega arith))
          (subst (λ (o : Option GroupRule). IsStepOutcome c.args.numbers kept row
          (get_or columns r 0)
          (dense n c.failure_in_step.new.row.entries.items) o) c.in-Some.is
          (c.in_ok-rule.ensures.outcome kept rows));
    }

pub loop-place-preserved : goal.loop-place-preserved
loop-place-preserved c =
    let n = length c.args.table.now in
    let columns = c.args.columns.now in
    let r = c.loop-place.place in
    let row = dense n c.loop-place.row.entries.items in
    let after = c.failure_in_step.new.row.entries.items in
    record {
      row_is = subst (λ (o : Option GroupRule). IfNone o (IsSparseRow c.args.numbers n after))
          c.in_default.is
          c.in_ok-rule.ensures.row;
      stepped = λ kept rows.
          stepped_more c.args.numbers kept (dense n c.args.row.now.entries.items) columns r
          (get_or columns r 0) row (dense n after)
          (c.loop-place.invariant.stepped kept rows) (omega arith)
          (get_or_default columns r 0 (get_or columns r 0) (omega arith))
          (subst (λ (o : Option GroupRule). IsStepOutcome c.args.numbers kept row
          (get_or columns r 0) (dense n after) o)
          c.in_default.is (c.in_ok-rule.ensures.outcome kept rows));
    }

pub returns-clause-outcome : goal.returns-clause-outcome
returns-clause-outcome c kept rows =
    let n = length c.args.table.now in
    stepped_all c.args.numbers kept (dense n c.args.row.now.entries.items) c.args.columns.now
    c.loop-place.place
    (dense n c.loop-place.row.entries.items) (c.loop-place.invariant.stepped kept rows)
    (omega arith)
