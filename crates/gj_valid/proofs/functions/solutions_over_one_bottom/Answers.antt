use Rattle.gj_valid.proofs.ModelFunctions.{valid_over_one_bottom}
use Rattle.gj_valid.proofs.functions.solutions_over_one_bottom.Goals as goal

pub returns : goal.returns
returns c = valid_over_one_bottom
