use Rattle.std.proofs.Common.{pos, get_or}
use Rattle.gj_theory.proofs.WideNumbers.{some_from_bits}
use Rattle.gj_check_groups.proofs.Tables.{no_step, step_meets, step_too_wide}
use Rattle.gj_check_groups.proofs.group.failure_in_step.Goals as goal

pub returns-in-None-clause-outcome : goal.returns-in-None-clause-outcome
returns-in-None-clause-outcome c kept rows =
    no_step kept c.args.table.now c.args.row.now c.args.column rows c.in-None.ensures.none

pub returns-in-Ok-clause-outcome : goal.returns-in-Ok-clause-outcome
returns-in-Ok-clause-outcome c kept rows =
    step_meets c.args.numbers kept c.args.table.now c.args.row.now c.in-Some.kept.now
    c.reduce.new.row c.args.column rows c.in-Some.ensures.some
    (some_from_bits (get_or c.args.row.now c.args.column (pos 0)) c.if-row-column-eq0.false)
    c.in-Ok.ensures.narrow c.in-Ok.ensures.value

pub returns-in-Err-clause-outcome : goal.returns-in-Err-clause-outcome
returns-in-Err-clause-outcome c kept rows =
    step_too_wide c.args.numbers kept c.args.table.now c.args.row.now c.in-Some.kept.now
    c.args.column rows c.in-Some.ensures.some
    (some_from_bits (get_or c.args.row.now c.args.column (pos 0)) c.if-row-column-eq0.false)
    c.in-Err.ensures.wide
