use Rattle.gj_function_text.proofs.CanonicalBreaks.{breaks_read_again}
use Rattle.gj_function_text.proofs.laws.breaks_are_read_again.Goals as goal

pub returns : goal.returns
returns c = breaks_read_again
