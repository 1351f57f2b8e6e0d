use Rattle.gj_shape.proofs.OneFunction.{same_from_given}
use Rattle.gj_shape.proofs.laws.one_function_is_given.Goals as goal

pub returns : goal.returns
returns c = same_from_given
