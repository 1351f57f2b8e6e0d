use Rattle.gj_function_lines.proofs.StrictFunctions.{strict_lines_are_canonical}
use Rattle.gj_function_lines.proofs.laws.strict_lines_are_canonical.Goals as goal

pub returns : goal.returns
returns c = strict_lines_are_canonical
