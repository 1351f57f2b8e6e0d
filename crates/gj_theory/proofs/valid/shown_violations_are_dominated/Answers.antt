use Rattle.gj_theory.proofs.ValidTables.{violation_dominated}
use Rattle.gj_theory.proofs.Violations.{some_grid}
use Rattle.gj_theory.proofs.valid.shown_violations_are_dominated.Goals as goal

pub returns-clause-each : goal.returns-clause-each
returns-clause-each c = violation_dominated

pub returns-clause-some : goal.returns-clause-some
returns-clause-some c = some_grid
