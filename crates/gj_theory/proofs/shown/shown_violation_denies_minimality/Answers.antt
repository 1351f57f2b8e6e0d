use Rattle.gj_theory.proofs.Violations.{violation_denies}
use Rattle.gj_theory.proofs.shown.shown_violation_denies_minimality.Goals as goal

pub returns : goal.returns
returns c = violation_denies
