use Rattle.gj_limit_averages.proofs.FromAverages.{conditions_of_extreme}
use Rattle.gj_limit_averages.proofs.FromConditions.{extreme_from_conditions}
use Rattle.gj_limit_averages.proofs.extreme.extreme_functions_are_covered_and_solved.Goals as goal

pub returns : goal.returns
returns c f bounds = (conditions_of_extreme f bounds, extreme_from_conditions f bounds)
