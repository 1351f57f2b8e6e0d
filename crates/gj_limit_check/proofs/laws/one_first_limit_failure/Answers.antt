use Rattle.gj_limit_check.proofs.FirstLimitDemand.{one_failure, no_failure}
use Rattle.gj_limit_check.proofs.laws.one_first_limit_failure.Goals as goal

pub returns : goal.returns
returns c = record { one = one_failure; none = no_failure }
