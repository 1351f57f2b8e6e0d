use Rattle.gj_proof.proofs.ExtremeClaims.{of_extreme_text}
use Rattle.gj_proof.proofs.ShortTexts.{extreme_text_is_short_by}
use Rattle.gj_proof.proofs.laws.extreme_proof_text_is_short.Goals as goal

pub returns : goal.returns
returns c = λ n f lines rows text b few p. extreme_text_is_short_by n f lines rows text b few
    (of_extreme_text f lines rows n text p)
