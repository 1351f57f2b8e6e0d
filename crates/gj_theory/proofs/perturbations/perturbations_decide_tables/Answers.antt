use Rattle.gj_theory.proofs.DecidingGrid.{none_from_extreme, extreme_from_none}
use Rattle.gj_theory.proofs.perturbations.perturbations_decide_tables.Goals as goal

pub returns : goal.returns
returns c = λ t n k s some minimal.
    (none_from_extreme t n k s some, extreme_from_none t n k s minimal)
