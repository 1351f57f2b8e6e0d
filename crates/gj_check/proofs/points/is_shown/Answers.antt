use Rattle.std.proofs.Common.{◌≢◌, pos, get_or, w64, FitsSigned, ap, rules}
use Rattle.gj_check_minimal.proofs.TestsInTurn.{first_fails, first_passes, in_other_words}
use Rattle.gj_check.proofs.ShownPoints.{point_read, zero_read}
use Rattle.gj_check.proofs.points.is_shown.Goals as goal

pub returns-in-Zero : goal.returns-in-Zero
returns-in-Zero c =
    let n = get_or c.value_numerators-values.result.now 0 (pos 0) in
    let fits : FitsSigned w64 n = search rules in
    in_other_words _ (n ≢ pos 0) _ (search rules)
    (zero_read c.args.shape.now c.args.violation n c.value_numerators-values.ensures.limits
    c.in-Zero.is
    (ap (λ xs. get_or xs 0 (pos 0)) c.value_numerators-values.ensures.value))

pub returns-then-is_coordinate : goal.returns-then-is_coordinate
returns-then-is_coordinate c =
    first_passes _ _ _ _ _ c.if-is_coordinate.true c.is_coordinate.ensures c.is_negative_at.ensures
    (point_read c.args.shape.now c.args.violation _ c.in-Negative.is)

pub returns-else-is_coordinate : goal.returns-else-is_coordinate
returns-else-is_coordinate c =
    first_fails _ _ _ _ c.if-is_coordinate.false c.is_coordinate.ensures
    (point_read c.args.shape.now c.args.violation _ c.in-Negative.is)

pub returns-then-is_coordinate-2 : goal.returns-then-is_coordinate-2
returns-then-is_coordinate-2 c =
    first_passes _ _ _ _ _ c.if-is_coordinate-2.true c.is_coordinate-in-Asymmetric.ensures
    c.is_asymmetric_at.ensures
    (point_read c.args.shape.now c.args.violation _ c.in-Asymmetric.is)

pub returns-else-is_coordinate-2 : goal.returns-else-is_coordinate-2
returns-else-is_coordinate-2 c =
    first_fails _ _ _ _ c.if-is_coordinate-2.false c.is_coordinate-in-Asymmetric.ensures
    (point_read c.args.shape.now c.args.violation _ c.in-Asymmetric.is)

pub returns-then-are_coordinates : goal.returns-then-are_coordinates
returns-then-are_coordinates c =
    first_passes _ _ _ _ _ c.if-are_coordinates.true c.are_coordinates.ensures
    c.is_superadditive_at.ensures
    (point_read c.args.shape.now c.args.violation _ c.in-Superadditive.is)

pub returns-else-are_coordinates : goal.returns-else-are_coordinates
returns-else-are_coordinates c =
    first_fails _ _ _ _ c.if-are_coordinates.false c.are_coordinates.ensures
    (point_read c.args.shape.now c.args.violation _ c.in-Superadditive.is)
