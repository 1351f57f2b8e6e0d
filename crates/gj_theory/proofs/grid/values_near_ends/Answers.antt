use Rattle.gj_theory.proofs.Affine.{near_after, near_before}
use Rattle.gj_theory.proofs.grid.values_near_ends.Goals as goal

pub returns-clause-after : goal.returns-clause-after
returns-clause-after c = near_after

pub returns-clause-before : goal.returns-clause-before
returns-clause-before c = near_before
