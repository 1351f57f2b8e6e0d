use Rattle.gj_problem_text.proofs.LinesTold.{no_right_side}
use Rattle.gj_problem_text.proofs.lines.constraint_in.Goals as goal

pub returns-in_default-number_of-clause-broken : goal.returns-in_default-number_of-clause-broken
returns-in_default-number_of-clause-broken c =
    rw c.in-Some.ensures.found
    (no_right_side c.in-Some.name.now c.in-Some.right.now c.in-Some.sense
    c.in_default-number_of.ensures.none)
