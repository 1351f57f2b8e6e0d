use Rattle.gj_theory.specs.Modulus.{modulus}
use Rattle.gj_theory.proofs.Euclid.{IsEuclid}
use Rattle.gj_residue.proofs.residue.inverse_of.Given as goal

abbrev pub invariant-loop-next : goal.invariant-loop-next
invariant-loop-next l = IsEuclid modulus l.x l.remainder l.next l.factor l.next_factor

abbrev pub decreases-loop-next : goal.decreases-loop-next
decreases-loop-next l = l.next
