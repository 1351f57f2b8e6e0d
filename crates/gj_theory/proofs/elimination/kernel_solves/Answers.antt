use Rattle.gj_theory.proofs.Kernels.{kernel_none, kernel_columns, kernel_solves, kernel_positive}
use Rattle.gj_theory.proofs.elimination.kernel_solves.Goals as goal

pub returns-clause-none : goal.returns-clause-none
returns-clause-none c = kernel_none

pub returns-clause-columns : goal.returns-clause-columns
returns-clause-columns c = kernel_columns

pub returns-clause-solves : goal.returns-clause-solves
returns-clause-solves c = kernel_solves

pub returns-clause-some : goal.returns-clause-some
returns-clause-some c = kernel_positive
