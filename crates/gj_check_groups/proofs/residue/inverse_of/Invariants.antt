use Rattle.std.proofs.Common.{◌≤◌}
use Rattle.gj_theory.specs.Modulus.{modulus}
use Rattle.gj_theory.proofs.Euclid.{IsEuclid}
use Rattle.gj_check_groups.proofs.residue.inverse_of.Given as goal

abbrev pub invariant-loop-next : goal.invariant-loop-next
invariant-loop-next l = record {
  euclid : IsEuclid modulus l.x l.remainder l.next l.factor l.next_factor;
  high : l.remainder ≤ modulus;
  next_high : l.next ≤ modulus;
}

abbrev pub decreases-loop-next : goal.decreases-loop-next
decreases-loop-next l = l.next
