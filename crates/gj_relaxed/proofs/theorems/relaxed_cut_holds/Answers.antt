use Rattle.gj_relaxed.proofs.RelaxedCuts.{gmic_relaxed_holds, function_relaxed_holds}
use Rattle.gj_relaxed.proofs.theorems.relaxed_cut_holds.Goals as goal

pub returns-clause-by_gmic : goal.returns-clause-by_gmic
returns-clause-by_gmic c = gmic_relaxed_holds

pub returns-clause-by_function : goal.returns-clause-by_function
returns-clause-by_function c = function_relaxed_holds
