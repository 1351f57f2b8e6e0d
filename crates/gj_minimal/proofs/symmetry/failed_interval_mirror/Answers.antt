use Rattle.gj_minimal.proofs.ContinuousTests.{symmetry_of_continuous}
use Rattle.gj_minimal.proofs.symmetry.failed_interval_mirror.Goals as goal

pub returns-then-is_continuous-clause-none : goal.returns-then-is_continuous-clause-none
returns-then-is_continuous-clause-none c =
    symmetry_of_continuous c.args.shape.now c.requires.limits
    (c.requires.continuous c.if-is_continuous.true) c.requires.mirrors
