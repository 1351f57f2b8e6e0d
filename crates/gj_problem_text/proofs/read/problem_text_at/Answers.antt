use Rattle.std.proofs.lemmas.Result.{err_from_is_err_and}
use Rattle.gj_forms.specs.Parts.{IsFaultOf}
use Rattle.gj_forms.proofs.PartLaws.{passed_on}
use Rattle.gj_problem_text.specs.ProblemText.{problem_text}
use Rattle.gj_problem_text.proofs.TextParts.{fault_in_rule, fault_in_lines, fault_behind, whole_text}
use Rattle.gj_problem_text.proofs.read.problem_text_at.Goals as goal

pub returns-in_err-rest-2-clause-fault : goal.returns-in_err-rest-2-clause-fault
returns-in_err-rest-2-clause-fault c =
    let p = err_from_is_err_and c.from_residual-in_err-rest-2.result
    c.from_residual-in_err-rest-2.ensures.1 in
    passed_on (IsFaultOf problem_text c.args.text.now) _ _ _ p.1 p.2
    (fault_in_rule c.args.text.now c.in_ok-rest.rest.now c.in_ok-rest.ensures.passed _
    c.in_err-rest-2.ensures.passed)

pub returns-in_err-task-clause-fault : goal.returns-in_err-task-clause-fault
returns-in_err-task-clause-fault c =
    let p = err_from_is_err_and c.from_residual-in_err-task.result
    c.from_residual-in_err-task.ensures.1 in
    passed_on (IsFaultOf problem_text c.args.text.now) _ _ _ p.1 p.2
    (fault_in_lines c.args.text.now c.in_ok-rest.rest.now c.in_ok-rest.ensures.passed
    c.in_ok-rest-2.rest.now c.in_ok-rest-2.ensures.passed
    _ c.in_err-task.ensures)

pub returns-in_err-end_at-clause-fault : goal.returns-in_err-end_at-clause-fault
returns-in_err-end_at-clause-fault c =
    let p = err_from_is_err_and c.from_residual-in_err-end_at.result
    c.from_residual-in_err-end_at.ensures.1 in
    passed_on (IsFaultOf problem_text c.args.text.now) _ _ _ p.1 p.2
    (fault_behind c.args.text.now c.in_ok-rest.rest.now c.in_ok-rest.ensures.passed
    c.in_ok-rest-2.rest.now c.in_ok-rest-2.ensures.passed
    c.in_ok-task.task c.in_ok-task.rest.now _ c.in_ok-task.ensures
    c.in_err-end_at.ensures.fault)

pub returns-clause-found : goal.returns-clause-found
returns-clause-found c =
    whole_text c.args.text.now c.in_ok-rest.rest.now c.in_ok-rest.ensures.passed
    c.in_ok-rest-2.rest.now c.in_ok-rest-2.ensures.passed
    c.in_ok-task.task c.in_ok-task.rest.now c.in_ok-task.ensures c.in_ok-end_at.ensures.ended
