use Rattle.gj_family.proofs.OneFunction.{one_gmic, one_half_function, one_two_slope}
use Rattle.gj_family.proofs.laws.one_function_of_a_family.Goals as goal

pub returns-clause-gmic : goal.returns-clause-gmic
returns-clause-gmic c = one_gmic

pub returns-clause-half : goal.returns-clause-half
returns-clause-half c = one_half_function

pub returns-clause-two_slope : goal.returns-clause-two_slope
returns-clause-two_slope c = one_two_slope
