use Rattle.gj_loops.proofs.LaidNumbers.{AreLaid}
use Rattle.gj_loops.proofs.periods.write_periods.Given as goal

abbrev pub invariant-loop-i : goal.invariant-loop-i
invariant-loop-i g l = AreLaid g.L.Lane.number l.lanes l.numbers l.i
