use Rattle.std.proofs.Common.{ℕ, List}
use Rattle.gj_top.specs.declared.reply.End.{End}
use Rattle.gj_top.specs.declared.reply.End.TheVariants.{Done}
use Rattle.gj_top.specs.Cut.{CutInput}
use Rattle.gj_top.specs.Mixed.{IsMixedReply}
use Rattle.gj_top.specs.Objection.{IsObjection}
use Rattle.gj_top.proofs.mixed.mixed_reply.Goals as goal

objected : (input : CutInput) (e : End) (text : List ℕ) → IsObjection input.rule e text →
    IsMixedReply input e text
objected input Done text h = absurd h
objected input e text h = h

pub returns-in-Some : goal.returns-in-Some
returns-in-Some c = objected _ c.in-Some.objection.end c.in-Some.objection.text.items
    (rw c.in-Some.is at c.in_ok-objection.ensures.some)
