use Rattle.gj_check_minimal.proofs.TestsInTurn.{in_other_words}
use Rattle.gj_check_minimal.proofs.RowTests.{continuous_read}
use Rattle.gj_check_minimal.proofs.minimality.is_subadditive.Goals as goal

pub returns-then-is_continuous : goal.returns-then-is_continuous
returns-then-is_continuous c =
    in_other_words _ _ _ c.is_subadditive_on_grid.ensures.grid
    (continuous_read c.args.shape.now c.is_subadditive_on_grid.ensures.limits
    (c.is_continuous.ensures.0 c.if-is_continuous.true))
