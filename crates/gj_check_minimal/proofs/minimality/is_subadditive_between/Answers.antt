use Rattle.std.proofs.Common.{below_more, refl, arith}
use Rattle.gj_theory.proofs.Lanes.{mirrored_square}
use Rattle.gj_check_minimal.specs.Tests.{IsSubadditiveAt, IsSubadditiveRow}
use Rattle.gj_check_minimal.proofs.TestsInTurn.{one_fails}
use Rattle.gj_check_minimal.proofs.RowTests.{from_diagonals}
use Rattle.gj_check_minimal.proofs.minimality.is_subadditive_between.Goals as goal

pub returns-then-not-is_subadditive_row : goal.returns-then-not-is_subadditive_row
returns-then-not-is_subadditive_row g c =
    one_fails _ _ _ c.if-not-is_subadditive_row.true c.is_subadditive_row.ensures
    (λ all b from below. all c.loop-a.a b (omega arith) below)

pub loop-a-preserved : goal.loop-a-preserved
loop-a-preserved g c =
    below_more (IsSubadditiveRow c.args.shape.now) c.loop-a.a c.loop-a.invariant
    (c.is_subadditive_row.ensures.0 c.if-not-is_subadditive_row.false)

pub returns : goal.returns
returns g c = (
  λ _. from_diagonals (IsSubadditiveAt c.args.shape.now) c.args.shape.now.order
      (mirrored_square c.args.shape.now)
      (λ a below. c.loop-a.invariant a (omega arith)),
  λ _. refl,
)
