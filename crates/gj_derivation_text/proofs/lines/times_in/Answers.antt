use Rattle.gj_derivation_text.proofs.StepKinds.{no_factor}
use Rattle.gj_derivation_text.proofs.lines.times_in.Goals as goal

pub returns-in-None-clause-broken : goal.returns-in-None-clause-broken
returns-in-None-clause-broken c =
    rw c.in-Some.ensures.found (no_factor c.in-Some.word.now c.in-None.ensures.none)
