use Rattle.gj_transform.proofs.TimesTables.{times_minimal, minimal_of_times}
use Rattle.gj_transform.proofs.verdicts.times_is_minimal.Goals as goal

pub returns : goal.returns
returns c = λ f g n j l h some r.
    (times_minimal f g n j l some r, minimal_of_times f g n j l h some r)
