use Rattle.gj_theory.proofs.Fillings.{halves_deny}
use Rattle.gj_theory.proofs.perturbations.halves_deny_extremality.Goals as goal

pub returns : goal.returns
returns c = λ t a b n k s c. halves_deny t n k s c a b
