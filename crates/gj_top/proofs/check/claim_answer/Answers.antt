use Rattle.gj_top.specs.Check.Checkable.{of_claim}
use Rattle.gj_top.proofs.check.claim_answer.Goals as goal

pub returns : goal.returns
returns c = record {
  thing = of_claim c.in_ok-proof.proof;
  spelled =
      c.in_ok-proof.ensures;
  replied = c.in_ok-judgement.ensures;
}
