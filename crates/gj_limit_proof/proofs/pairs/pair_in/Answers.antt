use Rattle.gj_limit_proof.proofs.BrokenPairs.{no_pair_words}
use Rattle.gj_limit_proof.proofs.pairs.pair_in.Goals as goal

pub returns-in-None-clause-fault : goal.returns-in-None-clause-fault
returns-in-None-clause-fault c = no_pair_words _ c.in_default.ensures.none c.in-None.ensures.none
