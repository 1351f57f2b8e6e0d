use Rattle.std.proofs.Common.{inl, inr}
use Rattle.gj_fill.proofs.FillIns.{below_rise, below_fall, reached}
use Rattle.gj_fill.proofs.FillIns.IsReached.{rising, falling}
use Rattle.gj_fill.proofs.laws.fill_in_is_least.Goals as goal

pub returns-clause-rise : goal.returns-clause-rise
returns-clause-rise c = below_rise

pub returns-clause-fall : goal.returns-clause-fall
returns-clause-fall c = below_fall

pub returns-clause-one : goal.returns-clause-one
returns-clause-one c v s t m i some = elim (reached v s t m i some) [
  | rising u d e is ↦ inl (u, d, e, is)
  | falling u d e is ↦ inr (u, d, e, is)
]
