use Rattle.std.proofs.Common.{get_or, take, arith}
use Rattle.std.proofs.lemmas.List.{get_or_default, length-take-le}
use Rattle.gj_proof.proofs.LineCounts.{length-reductions}
use Rattle.gj_check_groups.proofs.StepsInTurn.{stepped_fails, stepped_more, stepped_all}
use Rattle.gj_check_groups.proofs.group.failure_in_steps.Goals as goal

pub returns-in-Some-clause-outcome : goal.returns-in-Some-clause-outcome
returns-in-Some-clause-outcome c kept rows =
    let columns = c.args.columns.now in
    let r = c.loop-place.place in
    record {
      index = r;
      below = let above = length-reductions 0 0 (take r columns) in
          let long = length-take-le r columns (omega arith) in
          let is = c.lines_with_steps.ensures in omega arith;
      fails = stepped_fails c.args.numbers kept c.args.row.now columns r
          (get_or columns r 0) c.loop-place.row c.in-Some.rule
          (c.loop-place.invariant.stepped kept rows) (omega arith)
          (get_or_default columns r 0 (get_or columns r 0) (omega arith))
          (c.in-Some.ensures.outcome kept rows);
    }

pub loop-place-preserved : goal.loop-place-preserved
loop-place-preserved c =
    let columns = c.args.columns.now in
    let r = c.loop-place.place in
    record {
      fits = c.in_default.ensures.fits;
      stepped = λ kept rows.
          stepped_more c.args.numbers kept c.args.row.now columns r
          (get_or columns r 0) c.loop-place.row c.failure_in_step.new.row
          (c.loop-place.invariant.stepped kept rows) (omega arith)
          (get_or_default columns r 0 (get_or columns r 0) (omega arith))
          (c.in_default.ensures.outcome kept rows);
    }

pub returns-clause-outcome : goal.returns-clause-outcome
returns-clause-outcome c kept rows =
    stepped_all c.args.numbers kept c.args.row.now c.args.columns.now c.loop-place.place
    c.loop-place.row
    (c.loop-place.invariant.stepped kept rows) (omega arith)
