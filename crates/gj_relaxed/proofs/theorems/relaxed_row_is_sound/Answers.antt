use Rattle.gj_relaxed.proofs.RelaxedRows.{relaxed_sound, relaxed_adds_up}
use Rattle.gj_relaxed.proofs.theorems.relaxed_row_is_sound.Goals as goal

pub returns-clause-sound : goal.returns-clause-sound
returns-clause-sound c = relaxed_sound

pub returns-clause-adds_up : goal.returns-clause-adds_up
returns-clause-adds_up c = relaxed_adds_up
