use Rattle.gj_limit_proof.proofs.LimitOneText.{no_fault}
use Rattle.gj_limit_proof.proofs.laws.no_fault_in_limit_proof_text.Goals as goal

pub returns : goal.returns
returns c = no_fault
