use Rattle.gj_function_lines.proofs.StrictFunctions.{function_lines_are_short}
use Rattle.gj_function_lines.proofs.laws.function_lines_are_short.Goals as goal

pub returns : goal.returns
returns c = function_lines_are_short
