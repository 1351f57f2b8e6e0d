-- The status of a run by the end of its reply (own).
use Rattle.gj_top.specs.declared.reply.End.{End}
use Rattle.gj_top.specs.declared.reply.End.TheVariants as end
use Rattle.gj_top.specs.declared.status.Status.{Status}
use Rattle.gj_top.specs.declared.status.Status.TheVariants.{Done, Rejected, Wide, NotContinuous, NoFunction, NotSubadditive, OrderLimit, BadOrder}

abbrev pub status_of : End → Status
status_of end.Done = Done
status_of end.Rejected = Rejected
status_of end.Wide = Wide
status_of end.NotContinuous = NotContinuous
status_of end.NoFunction = NoFunction
status_of end.NotSubadditive = NotSubadditive
status_of end.OrderLimit = OrderLimit
status_of end.BadOrder = BadOrder
