use Rattle.gj_theory.proofs.FirstFailed.{tests_pass}
use Rattle.gj_theory.proofs.first_violation.all_tests_pass.Goals as goal

pub returns : goal.returns
returns c = tests_pass
