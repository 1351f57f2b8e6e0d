use Rattle.gj_check_minimal.proofs.TestsInTurn.{one_fails}
use Rattle.gj_limit_check_halves.proofs.HalfTests.{symmetric_half}
use Rattle.gj_limit_check_halves.proofs.half.is_symmetric.Goals as goal

pub returns-then-not-are_opposite : goal.returns-then-not-are_opposite
returns-then-not-are_opposite c =
    one_fails _ _ _ c.if-not-are_opposite.true c.are_opposite.ensures
    (λ all. ((symmetric_half c.args.half c.requires).1 all).0)

pub returns : goal.returns
returns c =
    let lists = symmetric_half c.args.half c.requires in (
      λ t. lists.0 (
        c.are_opposite.ensures.0 c.if-not-are_opposite.false,
        c.are_opposite-2.ensures.0
            t,
      ),
      λ all. c.are_opposite-2.ensures.1 (lists.1 all).1,
    )
