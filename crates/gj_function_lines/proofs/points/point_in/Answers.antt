use Rattle.std.proofs.lemmas.Bool.{false≢true}
use Rattle.gj_function_lines.proofs.LinesRead.{no_point_words, no_point_numbers, point_spelled}
use Rattle.gj_function_lines.proofs.points.point_in.Goals as goal

pub returns-in_default-clause-broken : goal.returns-in_default-clause-broken
returns-in_default-clause-broken c = no_point_words c.args.spelling _ c.in_default.ensures.none

pub returns-in-Some-point_of-clause-found : goal.returns-in-Some-point_of-clause-found
returns-in-Some-point_of-clause-found c =
    point_spelled c.args.spelling _ _ c.in-Some-point_of.point c.in-Some.ensures.found
    (λ same. false≢true (c.if-are_three_same.ensures.1 same)) c.in-Some-point_of.ensures.found

pub returns-in-None-clause-broken : goal.returns-in-None-clause-broken
returns-in-None-clause-broken c =
    no_point_numbers c.args.spelling _ c.in-Some.words c.in-Some.ensures.found
    (λ same. false≢true (c.if-are_three_same.ensures.1 same))
    c.in-None.ensures.none
