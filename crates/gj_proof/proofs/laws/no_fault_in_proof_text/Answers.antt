use Rattle.gj_proof.proofs.OneText.{no_fault}
use Rattle.gj_proof.proofs.laws.no_fault_in_proof_text.Goals as goal

pub returns : goal.returns
returns c = no_fault
