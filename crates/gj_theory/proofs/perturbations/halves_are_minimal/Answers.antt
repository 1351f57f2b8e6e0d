use Rattle.gj_theory.proofs.HalvesAsLists.{lists_are_halves}
use Rattle.gj_theory.proofs.perturbations.halves_are_minimal.Goals as goal

pub returns : goal.returns
returns c = lists_are_halves
