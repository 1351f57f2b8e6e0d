use Rattle.gj_function_lines.proofs.OneTextOfLines.{one_text_of_lines}
use Rattle.gj_function_lines.proofs.laws.function_has_one_text.Goals as goal

pub returns : goal.returns
returns c = one_text_of_lines
