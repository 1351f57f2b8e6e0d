use Rattle.gj_relaxed.proofs.LoosePieces.{loosened_sound, loosened_at}
use Rattle.gj_relaxed.proofs.theorems.loosened_row_is_sound.Goals as goal

pub returns-clause-sound : goal.returns-clause-sound
returns-clause-sound c = loosened_sound

pub returns-clause-adds_same : goal.returns-clause-adds_same
returns-clause-adds_same c = loosened_at
