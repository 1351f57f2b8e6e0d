use Rattle.gj_theory.proofs.TightPairs.{tight_pair_in_face}
use Rattle.gj_theory.proofs.perturbations.tight_pair_lies_in_additive_face.Goals as goal

pub returns : goal.returns
returns c = tight_pair_in_face
