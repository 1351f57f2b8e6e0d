use Rattle.gj_valid.proofs.ModelFunctions.{model_minimal, model_only_minimal}
use Rattle.gj_valid.proofs.functions.minimal_functions_are_minimal_among_valid.Goals as goal

pub returns-clause-among : goal.returns-clause-among
returns-clause-among c = model_minimal

pub returns-clause-only : goal.returns-clause-only
returns-clause-only c = model_only_minimal
