use Rattle.std.proofs.Common.{◌≢◌, rules}
use Rattle.gj_frac.specs.Fraction.{numerator, denominator}
use Rattle.gj_check_minimal.proofs.TestsInTurn.{in_other_words}
use Rattle.gj_check.proofs.ShownPoints.{one_fine, one_within, coordinate_small, opposite_fine, asymmetric_fits, asymmetric_shown}
use Rattle.gj_check.proofs.points.is_asymmetric_at.Goals as goal

pub value_at-requires-clause-fine : goal.value_at-requires-clause-fine
value_at-requires-clause-fine c = one_fine c.args.x c.requires.coordinates

pub value_at-requires-clause-size : goal.value_at-requires-clause-size
value_at-requires-clause-size c =
    coordinate_small c.args.x (one_within c.args.x c.requires.coordinates)

pub value_scaled-requires : goal.value_scaled-requires
value_scaled-requires c =
    opposite_fine c.args.shape.now c.args.x c.scaled_opposite-opposite.result c.requires.coordinates
    c.scaled_opposite-opposite.ensures

pub add-sum-requires : goal.add-sum-requires
add-sum-requires c =
    asymmetric_fits c.args.shape.now c.args.x c.scaled_opposite-opposite.result c.value_at.result
    c.value_scaled.result
    c.requires.limits c.requires.coordinates c.scaled_opposite-opposite.ensures
    c.value_at.ensures.value
    c.value_scaled.ensures

pub returns : goal.returns
returns c =
    in_other_words _ (numerator c.add-sum.result ≢ denominator c.add-sum.result) _ (search rules)
    (asymmetric_shown c.args.shape.now c.args.x c.scaled_opposite-opposite.result c.value_at.result
    c.value_scaled.result
    c.add-sum.result c.requires.limits (one_within c.args.x c.requires.coordinates)
    c.scaled_opposite-opposite.ensures
    c.value_at.ensures.value c.value_scaled.ensures c.add-sum.ensures)
