use Rattle.gj_theory.proofs.FirstFailed.{first_failed}
use Rattle.gj_theory.proofs.first_violation.first_failed_test.Goals as goal

pub returns : goal.returns
returns c = first_failed
