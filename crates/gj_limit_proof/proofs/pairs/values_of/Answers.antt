use Rattle.gj_limit_proof.proofs.BrokenPairs.{no_values}
use Rattle.gj_limit_proof.proofs.pairs.values_of.Goals as goal

pub returns-in_default-clause-fault : goal.returns-in_default-clause-fault
returns-in_default-clause-fault c =
    no_values _ _ (λ x y h k h_fits k_fits. c.in_default.ensures.none x h h_fits)

pub returns-in_default-whole_of-clause-fault : goal.returns-in_default-whole_of-clause-fault
returns-in_default-whole_of-clause-fault c =
    no_values _ _ (λ x y h k h_fits k_fits. c.in_default-whole_of.ensures.none y k k_fits)
