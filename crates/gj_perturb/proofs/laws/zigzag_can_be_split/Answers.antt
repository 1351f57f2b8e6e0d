use Rattle.gj_perturb.proofs.Splittable.{zigzag_splits, zigzag_narrow}
use Rattle.gj_perturb.proofs.laws.zigzag_can_be_split.Goals as goal

pub returns-clause-can_split : goal.returns-clause-can_split
returns-clause-can_split c = zigzag_splits

pub returns-clause-narrow : goal.returns-clause-narrow
returns-clause-narrow c = zigzag_narrow
