use Rattle.gj_check_minimal.specs.Numerators.{AreOppositeBetween}
use Rattle.gj_check_minimal.proofs.minimality.are_opposite_between.Given as goal

abbrev pub invariant-loop-i : goal.invariant-loop-i
invariant-loop-i l = AreOppositeBetween l.numbers l.others l.from l.i l.sum l.total
