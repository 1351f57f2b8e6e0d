use Rattle.gj_theory.proofs.Inverses.{inverse_none, inverse_found, inverse_only}
use Rattle.gj_theory.proofs.residues.inverses_modulo.Goals as goal

pub returns-clause-none : goal.returns-clause-none
returns-clause-none c = inverse_none

pub returns-clause-found : goal.returns-clause-found
returns-clause-found c = inverse_found

pub returns-clause-only : goal.returns-clause-only
returns-clause-only c = inverse_only
