use Rattle.gj_theory.proofs.DecidingGrid.{four_times_decides}
use Rattle.gj_theory.proofs.decisive_order.order_4q_decides.Goals as goal

pub returns : goal.returns
returns c = four_times_decides
