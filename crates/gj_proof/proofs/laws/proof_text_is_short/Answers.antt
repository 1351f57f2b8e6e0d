use Rattle.gj_proof.proofs.ShortTexts.{text_is_short}
use Rattle.gj_proof.proofs.laws.proof_text_is_short.Goals as goal

pub returns : goal.returns
returns c = text_is_short
