use Rattle.gj_valid.proofs.ModelFunctions.{model_extreme, model_only_extreme}
use Rattle.gj_valid.proofs.functions.extreme_functions_are_extreme_among_valid.Goals as goal

pub returns-clause-among : goal.returns-clause-among
returns-clause-among c = model_extreme

pub returns-clause-only : goal.returns-clause-only
returns-clause-only c = model_only_extreme
