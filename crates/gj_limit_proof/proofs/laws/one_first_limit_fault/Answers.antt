use Rattle.gj_limit_proof.proofs.LimitOneText.{one_fault}
use Rattle.gj_limit_proof.proofs.laws.one_first_limit_fault.Goals as goal

pub returns : goal.returns
returns c = one_fault
