use Rattle.gj_theory.proofs.Zigzags.{zigzag_perturbs, zigzag_at_multiple, zigzag_at_quarter}
use Rattle.gj_theory.proofs.perturbations.zigzag_is_perturbation.Goals as goal

pub returns-clause-perturbation : goal.returns-clause-perturbation
returns-clause-perturbation c = zigzag_perturbs

pub returns-clause-zero : goal.returns-clause-zero
returns-clause-zero c = zigzag_at_multiple

pub returns-clause-one : goal.returns-clause-one
returns-clause-one c = zigzag_at_quarter
