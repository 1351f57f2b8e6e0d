use Rattle.std.proofs.Common.{refl}
use Rattle.gj_shape.proofs.ListEntries.{entries_pushed}
use Rattle.gj_family.proofs.halves.ones.Goals as goal

pub loop-preserved : goal.loop-preserved
loop-preserved c = entries_pushed _ _ _ _ _ c.loop.invariant c.in_ok-push.ensures.items refl
