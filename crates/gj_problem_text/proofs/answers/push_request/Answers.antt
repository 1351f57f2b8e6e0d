use Rattle.std.proofs.Common.{List, Bool, length, refl, subst}
use Rattle.gj_problem_text.specs.Cuts.{IsAnswer}
use Rattle.gj_problem_text.specs.Ready.{HasMultipliers}
use Rattle.gj_problem_text.proofs.answers.push_request.Goals as goal

pub returns-in_ok-push_answer-in-Sum-clause-step : goal.returns-in_ok-push_answer-in-Sum-clause-step
returns-in_ok-push_answer-in-Sum-clause-step c =
    let (cut, answer, holds, pushed) = c.in_ok-push_answer-in-Sum.ensures in
    rw c.in-Sum.is (
      refl,
      (
        cut,
        subst (λ (ups : List Bool). IsAnswer c.args.rule.now c.args.task.now
            c.in-Sum.multipliers ups cut) c.as_slice.ensures.value answer,
        holds,
        pushed,
      ),
    )

pub push_answer-requires-clause-multipliers : goal.push_answer-requires-clause-multipliers
push_answer-requires-clause-multipliers c =
    subst (HasMultipliers (length c.args.task.now.problem.constraints)) c.in-Sum.is
    c.requires.multipliers
