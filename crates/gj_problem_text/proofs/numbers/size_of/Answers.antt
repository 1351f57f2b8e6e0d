use Rattle.gj_problem_text.proofs.WordsRead.{none_then, none_behind_prefix, none_without_prefix}
use Rattle.gj_problem_text.proofs.numbers.size_of.Goals as goal

pub returns-in-Some-clause-none : goal.returns-in-Some-clause-none
returns-in-Some-clause-none c =
    let (front, parts, prefix) = c.in-Some.ensures.found in
    none_then c.scaled_of.result c.scaled_of.ensures.none
    (none_behind_prefix c.args.word.now front c.in-Some.rest.now parts prefix)

pub returns-in-None-clause-none : goal.returns-in-None-clause-none
returns-in-None-clause-none c =
    none_then c.scaled_of-in-None.result c.scaled_of-in-None.ensures.none
    (none_without_prefix c.args.word.now c.in-None.ensures.none)
