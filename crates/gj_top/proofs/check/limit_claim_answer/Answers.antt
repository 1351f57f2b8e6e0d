use Rattle.gj_top.specs.Check.Checkable.{of_limit_claim}
use Rattle.gj_top.proofs.check.limit_claim_answer.Goals as goal

pub returns : goal.returns
returns c =
    record {
      thing = of_limit_claim c.in_ok-proof.proof;
      spelled = c.in_ok-proof.ensures;
      replied =
          c.in_ok-limit_judgement.ensures;
    }
