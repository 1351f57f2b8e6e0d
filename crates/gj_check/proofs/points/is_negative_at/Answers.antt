use Rattle.std.proofs.Common.{◌<ℤ◌, pos, rules}
use Rattle.gj_frac.specs.Fraction.{numerator}
use Rattle.gj_check_minimal.proofs.TestsInTurn.{in_other_words}
use Rattle.gj_check.proofs.ShownPoints.{one_fine, one_within, negative_shown}
use Rattle.gj_check.proofs.points.is_negative_at.Goals as goal

pub value_at-requires-clause-fine : goal.value_at-requires-clause-fine
value_at-requires-clause-fine c = one_fine c.args.x c.requires.coordinates

pub returns : goal.returns
returns c =
    in_other_words _ (numerator c.value_at.result <ℤ pos 0) _ (search rules)
    (negative_shown c.args.shape.now c.args.x c.value_at.result c.requires.limits
    (one_within c.args.x c.requires.coordinates) c.value_at.ensures.value)
