use Rattle.std.proofs.lemmas.Bool.{false≢true}
use Rattle.gj_limit_proof.proofs.BrokenPairs.{triples_spelled, no_triples}
use Rattle.gj_limit_proof.proofs.pairs.triples_of.Goals as goal

pub returns-in_default-clause-fault : goal.returns-in_default-clause-fault
returns-in_default-clause-fault c =
    no_triples c.args.first c.args.second (λ is. false≢true (c.if-are_twice_three.ensures.1 is))
    (λ s t h k. c.in_default.ensures.none s h)

pub returns-in_default-triple_of-clause-fault : goal.returns-in_default-triple_of-clause-fault
returns-in_default-triple_of-clause-fault c =
    no_triples c.args.first c.args.second (λ is. false≢true (c.if-are_twice_three.ensures.1 is))
    (λ s t h k. c.in_default-triple_of.ensures.none t k)

pub returns-clause-found : goal.returns-clause-found
returns-clause-found c =
    triples_spelled c.args.first c.args.second _ _
    (λ is. false≢true (c.if-are_twice_three.ensures.1 is)) c.in-Some.ensures.found
    c.in-Some-triple_of.ensures.found
