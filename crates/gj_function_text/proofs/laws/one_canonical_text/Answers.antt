use Rattle.gj_function_text.proofs.OneCanonical.{one_canonical_text}
use Rattle.gj_function_text.proofs.laws.one_canonical_text.Goals as goal

pub returns : goal.returns
returns c = one_canonical_text
