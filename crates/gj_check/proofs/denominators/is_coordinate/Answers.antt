use Rattle.gj_check_minimal.proofs.TestsInTurn.{first_passes}
use Rattle.gj_check.proofs.Multiples.{one_read}
use Rattle.gj_check.proofs.denominators.is_coordinate.Goals as goal

pub returns-then-is_within_period : goal.returns-then-is_within_period
returns-then-is_within_period c =
    first_passes _ _ _ _ _ c.if-is_within_period.true c.is_within_period.ensures
    c.has_fine_multiple.ensures
    (one_read c.args.x c.positive_denominator.result c.positive_denominator.ensures.value)
