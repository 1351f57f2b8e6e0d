use Rattle.gj_theory.proofs.FirstFailed.{first_denies}
use Rattle.gj_theory.proofs.first_violation.first_violation_denies_tests.Goals as goal

pub returns : goal.returns
returns c = first_denies
