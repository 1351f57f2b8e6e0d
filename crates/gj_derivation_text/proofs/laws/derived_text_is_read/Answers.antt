use Rattle.gj_derivation_text.proofs.PrintedDerivations.{derived_is_read}
use Rattle.gj_derivation_text.proofs.laws.derived_text_is_read.Goals as goal

pub returns : goal.returns
returns c = derived_is_read
