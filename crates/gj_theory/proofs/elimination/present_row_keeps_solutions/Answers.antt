use Rattle.gj_theory.proofs.Eliminations.{present_row_solved}
use Rattle.gj_theory.proofs.SoundArithmetic.{whole_sound}
use Rattle.gj_theory.proofs.elimination.present_row_keeps_solutions.Goals as goal

pub returns : goal.returns
returns c = present_row_solved whole_sound
