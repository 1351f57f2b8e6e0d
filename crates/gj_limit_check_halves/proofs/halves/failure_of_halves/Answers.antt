use Rattle.gj_check_minimal.proofs.TestsInTurn.{denied}
use Rattle.gj_limit_check_halves.proofs.halves.failure_of_halves.Goals as goal

pub returns-then-not-is_minimal_half-2 : goal.returns-then-not-is_minimal_half-2
returns-then-not-is_minimal_half-2 c = (
  c.is_minimal_half.ensures.0 c.if-not-is_minimal_half.false,
  denied _ _ c.if-not-is_minimal_half-2.true c.is_minimal_half-2.ensures,
)

pub returns-then-not-are_different : goal.returns-then-not-are_different
returns-then-not-are_different c = (
  c.is_minimal_half.ensures.0 c.if-not-is_minimal_half.false,
  c.is_minimal_half-2.ensures.0 c.if-not-is_minimal_half-2.false,
  denied _ _ c.if-not-are_different.true c.are_different.ensures,
)

pub returns : goal.returns
returns c = record {
  first = c.is_minimal_half.ensures.0 c.if-not-is_minimal_half.false;
  second = c.is_minimal_half-2.ensures.0 c.if-not-is_minimal_half-2.false;
  same = c.are_different.ensures.0 c.if-not-are_different.false;
}
