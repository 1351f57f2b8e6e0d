use Rattle.gj_theory.proofs.Violations.{first_shown}
use Rattle.gj_theory.proofs.shown.first_violation_is_shown.Goals as goal

pub returns : goal.returns
returns c = first_shown
