use Rattle.gj_proof.proofs.OneText.{one_fault}
use Rattle.gj_proof.proofs.laws.one_first_fault.Goals as goal

pub returns : goal.returns
returns c = one_fault
