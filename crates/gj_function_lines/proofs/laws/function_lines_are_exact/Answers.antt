use Rattle.gj_function_lines.proofs.ExactFunctions.{function_part_is_exact}
use Rattle.gj_function_lines.proofs.laws.function_lines_are_exact.Goals as goal

pub returns : goal.returns
returns c = function_part_is_exact
