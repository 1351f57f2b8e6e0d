use Rattle.gj_check_minimal.proofs.TestsInTurn.{one_fails, in_other_words}
use Rattle.gj_check_minimal.proofs.PassedTests.{all_tests, squares_decide, symmetry_passes}
use Rattle.gj_check_minimal.proofs.minimality.is_minimal.Goals as goal

pub returns-then-not-is_zero_at_zero : goal.returns-then-not-is_zero_at_zero
returns-then-not-is_zero_at_zero c =
    one_fails _ _ _ c.if-not-is_zero_at_zero.true c.is_zero_at_zero.ensures
    (λ all. ((all_tests c.args.shape.now).1 all).0.0.0)

pub returns-then-not-is_nonnegative : goal.returns-then-not-is_nonnegative
returns-then-not-is_nonnegative c =
    one_fails _ _ _ c.if-not-is_nonnegative.true c.is_nonnegative.ensures
    (λ all. ((all_tests c.args.shape.now).1 all).0.0.1)

pub returns-then-not-is_symmetric : goal.returns-then-not-is_symmetric
returns-then-not-is_symmetric c =
    one_fails _ _ _ c.if-not-is_symmetric.true c.is_symmetric.ensures
    (λ all. ((all_tests c.args.shape.now).1 all).0.1)

pub is_subadditive-requires : goal.is_subadditive-requires
is_subadditive-requires c =
    symmetry_passes c.args.shape.now (c.is_zero_at_zero.ensures.0 c.if-not-is_zero_at_zero.false)
    (c.is_nonnegative.ensures.0 c.if-not-is_nonnegative.false)
    (c.is_symmetric.ensures.0 c.if-not-is_symmetric.false)

pub returns : goal.returns
returns c =
    in_other_words _ _ _ c.is_subadditive.ensures
    (squares_decide c.args.shape.now (c.is_zero_at_zero.ensures.0 c.if-not-is_zero_at_zero.false)
    (c.is_nonnegative.ensures.0 c.if-not-is_nonnegative.false)
    (c.is_symmetric.ensures.0 c.if-not-is_symmetric.false))
