use Rattle.std.proofs.Common.{refl}
use Rattle.gj_top.specs.Check.Checkable.{of_steps}
use Rattle.gj_top.proofs.derivation.derivation_answer.Goals as goal

pub returns : goal.returns
returns c = record {
  thing = of_steps (record { text = c.args.input.now; told = c.in_ok-derivation.derivation });
  spelled = (refl, c.in_ok-derivation.ensures.found);
  replied = c.in_ok-derivation_reply.ensures;
}
