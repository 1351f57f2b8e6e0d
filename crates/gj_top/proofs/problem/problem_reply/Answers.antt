use Rattle.std.proofs.Common.{ℕ, List}
use Rattle.gj_proof.specs.CutRules.{MakesContinuousCuts}
use Rattle.gj_problem_text.specs.declared.input.SafeInput.{SafeInput}
use Rattle.gj_top.specs.declared.reply.End.{End}
use Rattle.gj_top.specs.declared.reply.End.TheVariants.{Done}
use Rattle.gj_top.specs.Objection.{IsObjection}
use Rattle.gj_top.specs.Problem.{IsProblemReply}
use Rattle.gj_top.proofs.problem.problem_reply.Goals as goal

objected : (asked : SafeInput) (e : End) (text : List ℕ) → IsObjection asked.rule e text →
    IsProblemReply asked e text
objected asked Done text h = absurd h
objected asked e text h = h

pub returns-in-Some : goal.returns-in-Some
returns-in-Some c = objected _ c.in-Some.objection.end c.in-Some.objection.text.items
    (rw c.in-Some.is at c.in_ok-objection.ensures.some)

pub cuts_text-requires-clause-makes : goal.cuts_text-requires-clause-makes
cuts_text-requires-clause-makes c =
    let makes : MakesContinuousCuts c.args.asked.now.rule =
    rw c.in_default.is at c.in_ok-objection.ensures.none in
    makes

pub returns : goal.returns
returns c =
    let makes : MakesContinuousCuts c.args.asked.now.rule =
    rw c.in_default.is at c.in_ok-objection.ensures.none in
    (makes, c.in_ok-cuts_text.ensures)
