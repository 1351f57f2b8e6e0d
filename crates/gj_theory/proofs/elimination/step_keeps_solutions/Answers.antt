use Rattle.gj_theory.proofs.RowSums.{solves_divided, solves_kept_entries}
use Rattle.gj_theory.proofs.Steps.{solves_reduced, solves_before}
use Rattle.gj_theory.proofs.elimination.step_keeps_solutions.Goals as goal

pub returns-clause-after : goal.returns-clause-after
returns-clause-after c = solves_reduced

pub returns-clause-before : goal.returns-clause-before
returns-clause-before c = solves_before

pub returns-clause-division : goal.returns-clause-division
returns-clause-division c = solves_divided

pub returns-clause-entries : goal.returns-clause-entries
returns-clause-entries c = solves_kept_entries
