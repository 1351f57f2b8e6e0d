use Rattle.gj_function_text.proofs.LinesOfFunction.{text_has_lines, lines_are_text}
use Rattle.gj_function_text.proofs.laws.function_text_is_lines.Goals as goal

pub returns : goal.returns
returns c = λ text f rest. (text_has_lines text f rest, lines_are_text text f rest)
