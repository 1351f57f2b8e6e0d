use Rattle.gj_theory.proofs.CoverSteps.{one_step_a_component}
use Rattle.gj_theory.proofs.extreme.components_have_one_step.Goals as goal

pub returns : goal.returns
returns c = one_step_a_component
