use Rattle.gj_lex.proofs.CanonicalTexts.{same_from_fraction_text}
use Rattle.gj_lex.proofs.laws.one_fraction_for_a_text.Goals as goal

pub returns : goal.returns
returns c = same_from_fraction_text
