use Rattle.gj_limit_proof.proofs.LimitOneText.{one_claim, one_text}
use Rattle.gj_limit_proof.proofs.laws.one_limit_spelling.Goals as goal

pub returns : goal.returns
returns c = record { text = one_text; claim = one_claim }
