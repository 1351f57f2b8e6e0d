use Rattle.std.proofs.lemmas.List.Sums.{prefix_len-le-length}
use Rattle.gj_lex.proofs.WrittenNumbers.{whole_found, whole_only, ratio_found, ratio_only, point_found, point_only}
use Rattle.gj_lex.proofs.lenient.read_long.Goals as goal

pub split_at-requires : goal.split_at-requires
split_at-requires c = rw c.mark_place.ensures (prefix_len-le-length _ c.args.word.now)

pub returns-in-None-clause-found : goal.returns-in-None-clause-found
returns-in-None-clause-found c =
    whole_found _ _ _ _ c.mark_place.ensures c.split_at.ensures.front c.split_at.ensures.back
    c.in-None.ensures.cases _
    (c.read_whole.ensures.some, c.read_whole.ensures.value)

pub returns-in-None-clause-only : goal.returns-in-None-clause-only
returns-in-None-clause-only c =
    whole_only _ _ _ _ c.mark_place.ensures c.split_at.ensures.front c.split_at.ensures.back
    c.in-None.ensures.cases _ (c.read_whole.ensures.some, c.read_whole.ensures.value)

pub returns-in-Some-eq47-default-clause-found : goal.returns-in-Some-eq47-default-clause-found
returns-in-Some-eq47-default-clause-found c =
    ratio_found _ _ _ _ c.mark_place.ensures c.split_at.ensures.front c.split_at.ensures.back _ _
    c.in-Some-eq47-default.ensures.cases.0 c.in-Some-eq47-default.field-0-0-test _
    (c.read_ratio.ensures.some, c.read_ratio.ensures.value)

pub returns-in-Some-eq47-default-clause-only : goal.returns-in-Some-eq47-default-clause-only
returns-in-Some-eq47-default-clause-only c =
    ratio_only _ _ _ _ c.mark_place.ensures c.split_at.ensures.front c.split_at.ensures.back _ _
    c.in-Some-eq47-default.ensures.cases.0 c.in-Some-eq47-default.field-0-0-test _
    (c.read_ratio.ensures.some, c.read_ratio.ensures.value)

pub returns-in-Some-clause-found : goal.returns-in-Some-clause-found
returns-in-Some-clause-found c =
    point_found _ _ _ _ c.mark_place.ensures c.split_at.ensures.front c.split_at.ensures.back _ _
    c.in-Some.ensures.cases.0 c.in-Some.field-0-0-test.1 _
    (c.read_point.ensures.some, c.read_point.ensures.value)

pub returns-in-Some-clause-only : goal.returns-in-Some-clause-only
returns-in-Some-clause-only c =
    point_only _ _ _ _ c.mark_place.ensures c.split_at.ensures.front c.split_at.ensures.back _ _
    c.in-Some.ensures.cases.0 c.in-Some.field-0-0-test.1 _
    (c.read_point.ensures.some, c.read_point.ensures.value)
