use Rattle.gj_top.proofs.Made.{times_made}
use Rattle.gj_top.proofs.transform.times_reply.Goals as goal

pub returns : goal.returns
returns c =
    let made = c.times.ensures in
    let reply = c.in_ok-made_or_fault.field-0 in
    record {
      thing = c.in_ok-shape.shape;
      spelled = c.in_ok-shape.ensures;
      replied = times_made c.args.n c.args.j c.in_ok-shape.shape c.times.result reply.end
          reply.text.items made.times made.within made.minimal
          made.limit made.order c.in_ok-made_or_fault.ensures;
    }
