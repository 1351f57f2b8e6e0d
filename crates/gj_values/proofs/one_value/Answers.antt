use Rattle.std.proofs.Common.{pos, ◌*ℤ◌, unsigned_abs}
use Rattle.gj_frac.specs.Fraction.{numerator, denominator}
use Rattle.gj_shape.proofs.LeastDenominator.{denominator_some}
use Rattle.gj_values.proofs.OneValue.{one_value, one_gmic_value}
use Rattle.gj_values.proofs.one_value.Goals as goal

pub returns-clause-of_function : goal.returns-clause-of_function
returns-clause-of_function c = λ f x y z l h k.
    one_value f (numerator x *ℤ pos f.order) (unsigned_abs (denominator x)) y z l
    (denominator_some x) h k

pub returns-clause-of_gmic : goal.returns-clause-of_gmic
returns-clause-of_gmic c = one_gmic_value
