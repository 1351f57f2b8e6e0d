use Rattle.gj_theory.proofs.CarriedSteps.{carried_by_edge}
use Rattle.gj_theory.proofs.constant_steps.edge_carries_step.Goals as goal

pub returns : goal.returns
returns c = carried_by_edge
