use Rattle.std.proofs.Common.{refl, arith}
use Rattle.gj_faces.proofs.Readings.{all_in_range, not_in_range}
use Rattle.gj_faces.proofs.lanes.are_below.Goals as goal

pub returns-then-unsigned_abs-bound : goal.returns-then-unsigned_abs-bound
returns-then-unsigned_abs-bound c = (
  λ none. absurd cc,
  λ all. absurd (not_in_range c.args.bound c.args.values.now c.loop-value.value-index _
      c.loop-value-test.true c.unsigned_abs.ensures.value
      c.unsigned_abs.ensures.bound c.if-unsigned_abs-bound.true all),
)

pub returns : goal.returns
returns c = (
  λ _. all_in_range c.args.bound c.args.values.now c.requires
      (λ k below. c.loop-value.invariant k (omega arith)),
  λ _. refl,
)
