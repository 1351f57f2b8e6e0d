use Rattle.gj_valid.proofs.SmallCoefficients.{value_small, gmic_small}
use Rattle.gj_valid.proofs.cuts.coefficients_are_small.Goals as goal

pub returns-clause-by_function : goal.returns-clause-by_function
returns-clause-by_function c = value_small

pub returns-clause-by_gmic : goal.returns-clause-by_gmic
returns-clause-by_gmic c = gmic_small
