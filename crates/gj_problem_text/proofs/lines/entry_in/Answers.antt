use Rattle.gj_problem_text.proofs.LinesTold.{no_entry_value}
use Rattle.gj_problem_text.proofs.lines.entry_in.Goals as goal

pub returns-in_default-number_of-clause-broken : goal.returns-in_default-number_of-clause-broken
returns-in_default-number_of-clause-broken c =
    rw c.in-Some.ensures.found
    (no_entry_value c.in-Some.name.now c.in-Some.word.now c.in_default-number_of.ensures.none)
