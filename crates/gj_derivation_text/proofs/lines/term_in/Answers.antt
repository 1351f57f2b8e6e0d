use Rattle.gj_derivation_text.proofs.StepKinds.{no_name_term, no_value}
use Rattle.gj_derivation_text.proofs.lines.term_in.Goals as goal

pub returns-in-None-clause-broken : goal.returns-in-None-clause-broken
returns-in-None-clause-broken c =
    rw c.in-Some.ensures.found.0
    (no_value c.in-Some.name.now c.in-Some.word.now c.in-Some.ensures.found.1
    c.in-None.ensures.none)

pub returns-in_default-clause-broken : goal.returns-in_default-clause-broken
returns-in_default-clause-broken c = no_name_term _ c.in_default.ensures.none
