use Rattle.std.proofs.Common.{◌∙◌, arith}
use Rattle.gj_elim.proofs.LazyRows.{copied_all}
use Rattle.gj_elim.proofs.lazy.store.Goals as goal

pub returns : goal.returns
returns c =
    copied_all c.loop-i.wide c.args.row.now c.loop-i.i (c.loop-i.auto.wide ∙ c.requires.columns)
    (omega arith) c.loop-i.invariant
