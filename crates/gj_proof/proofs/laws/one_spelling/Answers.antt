use Rattle.gj_proof.proofs.OneText.{one_claim, one_text}
use Rattle.gj_proof.proofs.laws.one_spelling.Goals as goal

pub returns : goal.returns
returns c = record { text = one_text; claim = one_claim }
