use Rattle.gj_extreme.proofs.TwoSlopeDecisions.{two_slopes_decided, two_slopes_not_wide}
use Rattle.gj_extreme.proofs.laws.two_slopes_are_decided_extreme.Goals as goal

pub returns-clause-extreme : goal.returns-clause-extreme
returns-clause-extreme c = two_slopes_decided

pub returns-clause-not_wide : goal.returns-clause-not_wide
returns-clause-not_wide c = two_slopes_not_wide
