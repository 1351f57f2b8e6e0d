use Rattle.gj_top.proofs.Made.{restriction_made}
use Rattle.gj_top.proofs.transform.restrict_reply.Goals as goal

pub returns : goal.returns
returns c =
    let made = c.restrict.ensures in
    let reply = c.in_ok-made_or_fault.field-0 in
    record {
      thing = c.in_ok-shape.shape;
      spelled = c.in_ok-shape.ensures;
      replied = restriction_made c.args.order c.in_ok-shape.shape c.restrict.result reply.end
          reply.text.items
          (rw c.in_default.is at c.in_ok-jump.ensures.none) made.restriction made.within
          made.minimal made.order made.limit
          c.in_ok-made_or_fault.ensures;
    }
