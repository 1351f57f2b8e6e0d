use Rattle.gj_function_lines.proofs.points.push_printed.Goals as goal

pub returns-in-Value-clause-fault : goal.returns-in-Value-clause-fault
returns-in-Value-clause-fault c = rw c.in-Value.is c.push_value.ensures.fault

pub returns-in-Jump-clause-fault : goal.returns-in-Jump-clause-fault
returns-in-Jump-clause-fault c = rw c.in-Jump.is c.push.ensures.fault
