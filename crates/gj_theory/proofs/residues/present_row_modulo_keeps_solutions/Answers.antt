use Rattle.gj_theory.proofs.Eliminations.{present_row_solved}
use Rattle.gj_theory.proofs.ResidueSteps.{modulo_sound}
use Rattle.gj_theory.proofs.residues.present_row_modulo_keeps_solutions.Goals as goal

pub returns : goal.returns
returns c m n kept row w columns some =
    present_row_solved (modulo_sound m some) n kept row w columns
