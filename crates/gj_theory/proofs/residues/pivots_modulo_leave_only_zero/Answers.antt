use Rattle.gj_theory.proofs.ResiduePivots.{only_zero_modulo, only_zero_of_rows}
use Rattle.gj_theory.proofs.residues.pivots_modulo_leave_only_zero.Goals as goal

pub returns-clause-modulo : goal.returns-clause-modulo
returns-clause-modulo c = only_zero_modulo

pub returns-clause-zero : goal.returns-clause-zero
returns-clause-zero c = only_zero_of_rows
