use Rattle.gj_limit_proof.proofs.PairsRead.{ArePairsRead}
use Rattle.gj_limit_proof.proofs.pairs.pairs_at.Given as goal

abbrev pub invariant-loop : goal.invariant-loop
invariant-loop l = ArePairsRead l.count l.counter l.text l.rest l.first l.second
