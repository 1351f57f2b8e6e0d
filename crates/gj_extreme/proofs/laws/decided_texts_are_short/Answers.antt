use Rattle.gj_extreme.proofs.DecidedTexts.{decided_text_is_short}
use Rattle.gj_extreme.proofs.laws.decided_texts_are_short.Goals as goal

pub returns : goal.returns
returns c = decided_text_is_short
