use Rattle.gj_proof.proofs.read.claim_at.Goals as goal

pub returns-in-Cut : goal.returns-in-Cut
returns-in-Cut c = rw c.in-Cut.is c.cut_at.ensures
