use Rattle.gj_top.proofs.Made.{mirror_made}
use Rattle.gj_top.proofs.TextLaws.{function_is_bounded}
use Rattle.gj_top.proofs.transform.mirror_reply.Goals as goal

pub returns : goal.returns
returns c =
    let f = c.in_ok-shape.shape in
    let made = c.in_ok-mirror.ensures in
    let reply = c.in_ok-made_or_fault.field-0 in
    record {
      thing = f;
      spelled = c.in_ok-shape.ensures;
      replied = mirror_made f c.in_ok-mirror.field-0 reply.end reply.text.items
          (function_is_bounded c.args.input.now f c.in_ok-shape.ensures) made.mirror made.within
          made.minimal made.extreme c.in_ok-made_or_fault.ensures;
    }
