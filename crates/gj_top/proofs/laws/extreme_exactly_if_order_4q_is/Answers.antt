use Rattle.gj_top.proofs.ByOrder4q.{by_order_4q}
use Rattle.gj_top.proofs.laws.extreme_exactly_if_order_4q_is.Goals as goal

pub returns : goal.returns
returns c = record { reply = by_order_4q }
