use Rattle.gj_theory.proofs.CornerSlacks.{grid_slacks_low, slack_at_multiples, reached_beside_zero}
use Rattle.gj_theory.proofs.corner_slacks.grid_slacks_from_corners.Goals as goal

pub returns-clause-low : goal.returns-clause-low
returns-clause-low c = grid_slacks_low

pub returns-clause-corner : goal.returns-clause-corner
returns-clause-corner c = slack_at_multiples

pub returns-clause-beside : goal.returns-clause-beside
returns-clause-beside c = reached_beside_zero
