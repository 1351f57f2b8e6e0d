use Rattle.std.proofs.Common.{◌*◌, ◌≤◌, length}
use Rattle.gj_check_minimal.proofs.TableTests.{AgreeBelow}
use Rattle.gj_check_minimal.proofs.minimality.write_two_periods.Given as goal

abbrev pub invariant-loop-i : goal.invariant-loop-i
invariant-loop-i g l = (2 * l.shape.order ≤ length l.entries)
    × AgreeBelow g.E.Entry.number l.entries l.shape.value l.i
