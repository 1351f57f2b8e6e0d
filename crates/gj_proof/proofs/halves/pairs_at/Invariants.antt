use Rattle.gj_proof.proofs.ExtremeRead.{ArePairsRead}
use Rattle.gj_proof.proofs.halves.pairs_at.Given as goal

abbrev pub invariant-loop : goal.invariant-loop
invariant-loop l = ArePairsRead l.count l.counter l.text l.rest l.first.items l.second.items
