use Rattle.gj_limit_proof.proofs.LimitReadTexts.{read_is_text, text_is_read}
use Rattle.gj_limit_proof.proofs.laws.limit_proof_texts_are_read.Goals as goal

pub returns : goal.returns
returns c = λ d text. (λ reads. read_is_text d text reads, λ h. text_is_read d text h.0 h.1)
