use Rattle.std.proofs.Common.{arith}
use Rattle.gj_check_minimal.proofs.TestsInTurn.{in_other_words}
use Rattle.gj_check_minimal.proofs.BendTests.{bends_decide}
use Rattle.gj_check_minimal.proofs.tables.is_subadditive_by.Goals as goal

pub returns-in_default : goal.returns-in_default
returns-in_default g c =
    λ values len periods totals. in_other_words _ _ _
    (c.has_subadditive_totals.ensures values len periods) totals

pub returns : goal.returns
returns g c = λ values len periods totals.
    in_other_words _ _ _ (c.pass_at_bends.ensures values len periods)
    (bends_decide values c.in-Some.bends (let below = c.requires.place in omega arith)
    (c.in-Some.ensures.bends values len periods))
