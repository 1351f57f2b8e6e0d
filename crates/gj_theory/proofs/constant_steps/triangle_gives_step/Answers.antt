use Rattle.gj_theory.proofs.CarriedSteps.{given_by_triangle}
use Rattle.gj_theory.proofs.constant_steps.triangle_gives_step.Goals as goal

pub returns : goal.returns
returns c = given_by_triangle
