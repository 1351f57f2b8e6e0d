use Rattle.gj_function_lines.proofs.LinesRead.{no_break_words, no_break_numbers, break_spelled}
use Rattle.gj_function_lines.proofs.breaks.break_in.Goals as goal

pub returns-in_default-clause-broken : goal.returns-in_default-clause-broken
returns-in_default-clause-broken c = no_break_words _ c.in_default.ensures.none

pub returns-in-Some-break_of-clause-found : goal.returns-in-Some-break_of-clause-found
returns-in-Some-break_of-clause-found c =
    break_spelled _ _ _ c.in-Some-break_of.point c.in-Some.ensures.found
    c.in-Some-break_of.ensures.place c.in-Some-break_of.ensures.point

pub returns-in-None-clause-broken : goal.returns-in-None-clause-broken
returns-in-None-clause-broken c =
    no_break_numbers _ _ c.in-Some.words c.in-Some.ensures.found c.in-None.ensures.none
