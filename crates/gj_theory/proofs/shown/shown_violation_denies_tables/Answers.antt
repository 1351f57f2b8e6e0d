use Rattle.gj_theory.proofs.Violations.{violation_denies_tables}
use Rattle.gj_theory.proofs.shown.shown_violation_denies_tables.Goals as goal

pub returns : goal.returns
returns c = violation_denies_tables
