use Rattle.gj_shape.proofs.BreakLaws.{one_function}
use Rattle.gj_shape.proofs.laws.one_function_has_breaks.Goals as goal

pub returns : goal.returns
returns c = one_function
