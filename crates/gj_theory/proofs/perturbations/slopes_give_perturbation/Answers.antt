use Rattle.gj_theory.proofs.SlopePerturbations.{slopes_perturb, slopes_not_zero}
use Rattle.gj_theory.proofs.perturbations.slopes_give_perturbation.Goals as goal

pub returns-clause-perturbation : goal.returns-clause-perturbation
returns-clause-perturbation c = slopes_perturb

pub returns-clause-not_zero : goal.returns-clause-not_zero
returns-clause-not_zero c = slopes_not_zero
