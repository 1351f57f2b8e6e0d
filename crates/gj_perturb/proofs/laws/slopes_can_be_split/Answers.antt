use Rattle.gj_perturb.proofs.Splittable.{slopes_split}
use Rattle.gj_perturb.proofs.laws.slopes_can_be_split.Goals as goal

pub returns : goal.returns
returns c = slopes_split
