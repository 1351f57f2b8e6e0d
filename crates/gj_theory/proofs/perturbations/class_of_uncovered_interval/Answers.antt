use Rattle.gj_theory.proofs.CoverPaths.{class_uncovered}
use Rattle.gj_theory.proofs.perturbations.class_of_uncovered_interval.Goals as goal

pub returns : goal.returns
returns c = class_uncovered
