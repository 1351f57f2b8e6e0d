use Rattle.gj_real_answers.proofs.Claims.{limit_claim_at_reals}
use Rattle.gj_real_answers.proofs.limit_claims_hold_over_reals.Goals as goal

pub returns : goal.returns
returns g c = limit_claim_at_reals g.K.Reals.field g.K.Reals.floors
