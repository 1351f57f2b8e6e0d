use Rattle.std.proofs.lemmas.Result.{IfOk-weaker}
use Rattle.gj_safe_cut.specs.SafeCuts.{SafeCutHolds}
use Rattle.gj_safe_cut.specs.declared.cut.SafeCut.{SafeCut}
use Rattle.gj_problem_text.proofs.OneTextOfCuts.{answered}
use Rattle.gj_problem_text.proofs.answers.answer_of.Goals as goal

pub returns-clause-is : goal.returns-clause-is
returns-clause-is c =
    answered c.args.rule.now c.args.task.now c.args.multipliers.now c.args.at_upper.now
    c.in_ok-cut.cut c.on_grid.result c.in_ok-cut.ensures.is
    c.in_ok-cut.ensures.narrow c.on_grid.ensures.is c.on_grid.ensures.narrow

pub returns-clause-holds : goal.returns-clause-holds
returns-clause-holds c =
    IfOk-weaker c.on_grid.result
    (λ (answer : SafeCut). SafeCutHolds c.args.task.now.problem c.in_ok-cut.cut →
    SafeCutHolds c.args.task.now.problem answer)
    (SafeCutHolds c.args.task.now.problem) (λ (answer : SafeCut) h. h c.in_ok-cut.ensures.holds)
    c.on_grid.ensures.holds
