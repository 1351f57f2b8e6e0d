use Rattle.std.proofs.Common.{refl}
use Rattle.gj_top.proofs.derive.reply.Goals as goal

pub returns : goal.returns
returns c = record {
  thing = record { text = c.args.input.now; told = c.in_ok-told.told };
  spelled = (refl, c.in_ok-told.ensures.found);
  replied = c.in_ok-derive_reply.ensures;
}
