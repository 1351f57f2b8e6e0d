use Rattle.gj_theory.proofs.Repeats.{repeated_keeps_nothing, repeated_passes}
use Rattle.gj_theory.proofs.elimination.repeated_row_changes_nothing.Goals as goal

pub returns-clause-nothing : goal.returns-clause-nothing
returns-clause-nothing c = repeated_keeps_nothing

pub returns-clause-passes : goal.returns-clause-passes
returns-clause-passes c = repeated_passes
