use Rattle.gj_valid.proofs.ModelRules.{model_rules, model_zero, model_subadditive, model_symmetric}
use Rattle.gj_valid.proofs.functions.rules_of_minimal_functions.Goals as goal

pub returns-clause-among : goal.returns-clause-among
returns-clause-among c = model_rules

pub returns-clause-zero : goal.returns-clause-zero
returns-clause-zero c = model_zero

pub returns-clause-subadditive : goal.returns-clause-subadditive
returns-clause-subadditive c = model_subadditive

pub returns-clause-symmetric : goal.returns-clause-symmetric
returns-clause-symmetric c = model_symmetric
