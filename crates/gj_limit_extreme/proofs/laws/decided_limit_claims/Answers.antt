use Rattle.gj_limit_extreme.proofs.ClaimTexts.{extreme_has_text}
use Rattle.gj_limit_extreme.proofs.DecidedHolds.{decided_holds}
use Rattle.gj_limit_extreme.proofs.NotTooWide.{decided_not_wide}
use Rattle.gj_limit_extreme.proofs.OneDecision.{one_decision}
use Rattle.gj_limit_extreme.proofs.laws.decided_limit_claims.Goals as goal

pub returns-clause-holds : goal.returns-clause-holds
returns-clause-holds c = decided_holds

pub returns-clause-one : goal.returns-clause-one
returns-clause-one c = one_decision

pub returns-clause-not_wide : goal.returns-clause-not_wide
returns-clause-not_wide c = decided_not_wide
