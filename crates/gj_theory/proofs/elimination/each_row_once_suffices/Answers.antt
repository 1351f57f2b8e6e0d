use Rattle.gj_theory.proofs.RepeatedRows.{once_keeps, once_passes, all_handed_over}
use Rattle.gj_theory.proofs.elimination.each_row_once_suffices.Goals as goal

pub returns-clause-kept : goal.returns-clause-kept
returns-clause-kept c = once_keeps

pub returns-clause-passes : goal.returns-clause-passes
returns-clause-passes c = once_passes

pub returns-clause-all : goal.returns-clause-all
returns-clause-all c = all_handed_over
