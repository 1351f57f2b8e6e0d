use Rattle.gj_function_text.proofs.Canonical.{canonical_text_is_function_text}
use Rattle.gj_function_text.proofs.laws.canonical_text_is_function_text.Goals as goal

pub returns : goal.returns
returns c = canonical_text_is_function_text
