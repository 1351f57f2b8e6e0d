use Rattle.gj_function_lines.proofs.CanonicalFunctions.{canonical_lines_are_read}
use Rattle.gj_function_lines.proofs.laws.canonical_lines_are_read.Goals as goal

pub returns : goal.returns
returns c = canonical_lines_are_read
