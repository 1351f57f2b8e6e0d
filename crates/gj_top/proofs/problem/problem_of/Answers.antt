use Rattle.gj_problem_text.specs.SafeInputs.{IsFirstFaultOfInput}
use Rattle.gj_top.specs.Problem.{RefusesProblem}
use Rattle.gj_top.proofs.Refusals.{refused_at}
use Rattle.gj_top.proofs.problem.problem_of.Goals as goal

pub returns-in-Err-Refused-clause-found : goal.returns-in-Err-Refused-clause-found
returns-in-Err-Refused-clause-found c =
    refused_at (IsFirstFaultOfInput c.args.input.now) RefusesProblem c.args.input.now
    c.in-Err-Refused.at_line c.in-Err-Refused.reason
    c.refused.result (rw c.in-Err-Refused.field-0-is at c.in-Err-Refused.ensures.refused)
    (λ text h. h) c.refused.ensures
