use Rattle.gj_function_lines.proofs.FunctionRead.{within_bounds}
use Rattle.gj_function_lines.proofs.laws.read_functions_are_within_bounds.Goals as goal

pub returns : goal.returns
returns c = within_bounds
