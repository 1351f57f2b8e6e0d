use Rattle.std.proofs.Common.{sym, ◌∙◌, arith}
use Rattle.gj_elim.proofs.LazyRows.{copied_all}
use Rattle.gj_elim.proofs.lazy.load.Goals as goal

pub returns : goal.returns
returns c =
    copied_all c.loop-i.row c.args.wide.now c.loop-i.i (c.loop-i.auto.row ∙ sym c.requires.columns)
    (omega arith) c.loop-i.invariant
