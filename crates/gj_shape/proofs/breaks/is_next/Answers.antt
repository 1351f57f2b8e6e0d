use Rattle.std.proofs.lemmas.Bool.{ltb-true}
use Rattle.std.proofs.Common.{sym, length}
use Rattle.gj_shape.proofs.BreakLists.{behind_others_last}
use Rattle.gj_shape.proofs.breaks.is_next.Goals as goal

pub returns-in-Some : goal.returns-in-Some
returns-in-Some c =
    let at = c.in-Some.ensures.item in
    let next = behind_others_last c.args.breaks.now c.in-Some.before.now c.args.start c.args.x
    (ltb-true 0 (length c.args.breaks.now) (sym at.0)) at.1 in
    (λ h. next.0 (c.is_behind.ensures.0 h), λ h. c.is_behind.ensures.1 (next.1 h))
