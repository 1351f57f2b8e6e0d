use Rattle.std.proofs.Common.{rules}
use Rattle.gj_frac.specs.Fraction.{LessValue, fraction_of}
use Rattle.gj_check_minimal.proofs.TestsInTurn.{in_other_words}
use Rattle.gj_check.proofs.ShownPoints.{first_fine, second_fine, first_within, second_within, coordinates_fit_sum, values_fit, sum_fine, sum_small, superadditive_shown}
use Rattle.gj_check.proofs.points.is_superadditive_at.Goals as goal

pub value_at-requires-clause-fine : goal.value_at-requires-clause-fine
value_at-requires-clause-fine c = first_fine c.args.x c.args.y c.requires.coordinates

pub value_at-requires-2-clause-fine : goal.value_at-requires-2-clause-fine
value_at-requires-2-clause-fine c = second_fine c.args.x c.args.y c.requires.coordinates

pub add-sum-requires : goal.add-sum-requires
add-sum-requires c =
    values_fit c.args.shape.now c.args.x c.args.y c.value_at.result c.value_at-2.result
    c.requires.limits
    c.requires.coordinates c.value_at.ensures.value c.value_at-2.ensures.value

pub add-requires : goal.add-requires
add-requires c = coordinates_fit_sum c.args.x c.args.y c.requires.coordinates

pub value_at-requires-3-clause-fine : goal.value_at-requires-3-clause-fine
value_at-requires-3-clause-fine c =
    sum_fine c.args.x c.args.y c.add.result c.requires.coordinates c.add.ensures

pub value_at-requires-3-clause-size : goal.value_at-requires-3-clause-size
value_at-requires-3-clause-size c =
    sum_small c.args.x c.args.y c.add.result c.requires.coordinates c.add.ensures

pub returns : goal.returns
returns c =
    in_other_words _ (LessValue (fraction_of c.add-sum.result) (fraction_of c.value_at-3.result)) _
    (search rules)
    (superadditive_shown c.args.shape.now c.args.x c.args.y c.add.result c.value_at.result
    c.value_at-2.result
    c.value_at-3.result c.add-sum.result c.requires.limits
    (first_within c.args.x c.args.y c.requires.coordinates)
    (second_within c.args.x c.args.y c.requires.coordinates) c.add.ensures c.value_at.ensures.value
    c.value_at-2.ensures.value c.value_at-3.ensures.value c.add-sum.ensures)
