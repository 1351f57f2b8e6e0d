use Rattle.gj_check.proofs.DemandsOfClaims.{one_failure, no_failure}
use Rattle.gj_check.proofs.laws.one_first_failure.Goals as goal

pub returns : goal.returns
returns c = record { one = one_failure; none = no_failure }
