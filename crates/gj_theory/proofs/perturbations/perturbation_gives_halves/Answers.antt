use Rattle.gj_theory.proofs.PerturbedTables.{halves_of_perturbation}
use Rattle.gj_theory.proofs.perturbations.perturbation_gives_halves.Goals as goal

pub returns : goal.returns
returns c = halves_of_perturbation
