use Rattle.std.proofs.Common.{◌≡◌, length, drop}
use Rattle.gj_problem_text.specs.AnswersMade.{ArePartsFor}
use Rattle.gj_problem_text.proofs.AnsweredRequests.{LeadsToAnswers}
use Rattle.gj_problem_text.proofs.answers.push_answers.Given as goal

abbrev pub invariant-loop-request : goal.invariant-loop-request
invariant-loop-request l = record {
  parts : ArePartsFor l.task.round l.task.problem l.parts;
  count : length l.at_upper.items ≡ length l.task.problem.columns;
  leads : LeadsToAnswers l.rule l.task l.initial.out.items l.request-items l.at_upper.items
      (drop l.request-index l.request-items) l.out.items;
}
