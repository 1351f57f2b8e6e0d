use Rattle.gj_shape.specs.Additive.{IsTight}
use Rattle.gj_theory.proofs.ComponentIntervals.{interval_of_component}
use Rattle.gj_theory.proofs.perturbations.components_have_intervals.Goals as goal

pub returns : goal.returns
returns c = λ f lines number. interval_of_component f.order (IsTight f) lines number
