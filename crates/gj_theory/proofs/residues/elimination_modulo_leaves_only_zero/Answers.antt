use Rattle.gj_theory.proofs.Eliminations.{elimination_has}
use Rattle.gj_theory.proofs.ResidueElimination.{elimination_modulo_solved, elimination_modulo_zero}
use Rattle.gj_theory.proofs.ResidueSteps.{modulo_sound}
use Rattle.gj_theory.proofs.Triangular.{rank_at_most}
use Rattle.gj_theory.proofs.residues.elimination_modulo_leaves_only_zero.Goals as goal

pub returns-clause-triangular : goal.returns-clause-triangular
returns-clause-triangular c m n rows some columns =
    (elimination_has (modulo_sound m some) n rows columns).triangular

pub returns-clause-rank : goal.returns-clause-rank
returns-clause-rank c = rank_at_most

pub returns-clause-solved : goal.returns-clause-solved
returns-clause-solved c = elimination_modulo_solved

pub returns-clause-zero : goal.returns-clause-zero
returns-clause-zero c = elimination_modulo_zero
