use Rattle.gj_function_text.proofs.OneText.{one_function_text}
use Rattle.gj_function_text.proofs.laws.one_function_text.Goals as goal

pub returns : goal.returns
returns c = one_function_text
