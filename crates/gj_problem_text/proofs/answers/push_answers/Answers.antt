use Rattle.std.proofs.Common.{◌∙◌, List, All, length, sym, subst}
use Rattle.std.proofs.lemmas.List.{drop_all}
use Rattle.gj_problem_text.specs.Ready.{HasMultipliers}
use Rattle.gj_problem_text.specs.declared.task.Request.{Request}
use Rattle.gj_problem_text.proofs.PrintedItems.{next_item}
use Rattle.gj_problem_text.proofs.AnsweredRequests.{IsAnswered, none_answered, one_answered, all_answered}
use Rattle.gj_problem_text.proofs.answers.push_answers.Goals as goal

pub loop-request-init : goal.loop-request-init
loop-request-init c = record {
  parts = c.in_ok-parts.ensures;
  count = c.in_ok-at_upper.ensures.count;
  leads = none_answered _ _ _ _ _ c.in_ok-at_upper.ensures.none;
}

pub loop-request-preserved : goal.loop-request-preserved
loop-request-preserved c = record {
  parts = c.loop-request.invariant.parts;
  count = c.in_ok-push_request.ensures.count ∙ c.loop-request.invariant.count;
  leads = one_answered _ _ _ _ _ _ _ _ c.request-item.result _ _ c.loop-request.invariant.leads
      (next_item _ c.loop-request.request-index c.request-item.result c.loop-request-test.true
      c.request-item.is)
      c.in_ok-push_request.ensures.step;
}

pub returns : goal.returns
returns c =
    subst (λ (rs : List Request). IsAnswered c.args.rule.now c.args.task.now c.args.out.now.items rs
    c.loop-request.out.items) c.as_slice-request-items.ensures
    (all_answered _ _ _ _ _ _ _ c.loop-request.invariant.leads
    (drop_all _ _ c.loop-request-test.false))

pub push_request-requires-clause-grid : goal.push_request-requires-clause-grid
push_request-requires-clause-grid c = c.requires.ready.grid

pub push_request-requires-clause-round : goal.push_request-requires-clause-round
push_request-requires-clause-round c = c.requires.ready.round

pub push_request-requires-clause-multipliers : goal.push_request-requires-clause-multipliers
push_request-requires-clause-multipliers c =
    let n = length c.args.task.now.problem.constraints in
    subst (HasMultipliers n) (sym c.request-item.is)
    (subst (λ (rs : List Request). All (HasMultipliers n) rs)
    (sym c.as_slice-request-items.ensures) c.requires.ready.multipliers
    c.loop-request.request-index c.request-item.result c.loop-request-test.true)

pub push_request-requires-clause-parts : goal.push_request-requires-clause-parts
push_request-requires-clause-parts c = c.loop-request.invariant.parts
