use Rattle.gj_check_minimal.proofs.PassedTests.{all_tests, squares_decide}
use Rattle.gj_check_minimal.proofs.TestsInTurn.{one_fails, in_other_words}
use Rattle.gj_limit_check_halves.specs.Half.{data_of}
use Rattle.gj_limit_check_halves.proofs.HalfTests.{none_negative}
use Rattle.gj_limit_check_halves.proofs.half.is_minimal.Goals as goal

pub returns-then-not-is_symmetric : goal.returns-then-not-is_symmetric
returns-then-not-is_symmetric c =
    one_fails _ _ _ c.if-not-is_symmetric.true c.is_symmetric.ensures
    (λ all. ((all_tests (data_of c.args.half)).1 all).0.1)

pub returns : goal.returns
returns c =
    in_other_words _ _ _ c.is_subadditive.ensures
    (squares_decide (data_of c.args.half)
    (c.is_zero_at_zero.ensures.0 c.if-not-is_zero_at_zero.false)
    (none_negative c.args.half c.requires) (c.is_symmetric.ensures.0 c.if-not-is_symmetric.false))
