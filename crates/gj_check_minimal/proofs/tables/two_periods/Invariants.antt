use Rattle.gj_check_minimal.proofs.TableTests.{AreEntriesBelow}
use Rattle.gj_check_minimal.proofs.tables.two_periods.Given as goal

abbrev pub invariant-loop-i : goal.invariant-loop-i
invariant-loop-i g l = AreEntriesBelow g.E.Entry.number l.entries.items l.values l.i
