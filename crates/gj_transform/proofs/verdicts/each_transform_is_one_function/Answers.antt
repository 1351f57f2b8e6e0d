use Rattle.gj_transform.proofs.OneTransform.{one_times, one_mirror, one_restriction}
use Rattle.gj_transform.proofs.verdicts.each_transform_is_one_function.Goals as goal

pub returns-clause-times : goal.returns-clause-times
returns-clause-times c = one_times

pub returns-clause-mirror : goal.returns-clause-mirror
returns-clause-mirror c = one_mirror

pub returns-clause-restriction : goal.returns-clause-restriction
returns-clause-restriction c = one_restriction
