use Rattle.std.proofs.Common.{◌≡◌, ◌<◌, ◌-◌, length, drop, Some, sym, ◌∙◌, refl, arith}
use Rattle.std.proofs.lemmas.Bool.Decides.{nat_tests}
use Rattle.gj_lex.proofs.WrittenNumbers.{whole_only, ratio_found, ratio_only, point_found, point_only}
use Rattle.gj_lex.proofs.LeadingDigits.{top_small, slash_is_mark, point_is_mark, point_no_slash, mark_there, mark_nowhere, front_numeral, no_number, whole_read, ratio_read, point_read}
use Rattle.gj_lex.proofs.lenient.read_short.Goals as goal

pub returns-in-None-clause-only : goal.returns-in-None-clause-only
returns-in-None-clause-only c =
    let lead = c.leading_value-top.ensures in
    let back = c.split_at.ensures.back in
    let some : 0 < c.leading_value-top.result.1 = grind (arith, nat_tests) in
    let none : length (drop c.leading_value-top.result.1 c.args.word.now) ≡ 0 =
    rw (sym back) c.in-None.ensures.cases in
    let small = top_small c.leading_value-top.result.0
    (length c.args.word.now - c.leading_value-top.result.1) lead.room in
    whole_only c.args.word.now _ _ c.leading_value-top.result.1
    (mark_nowhere c.args.word.now _ lead.digits lead.within none) refl refl none
    (Some c.short_whole.result)
    (whole_read _ c.short_whole.result _
    (front_numeral c.args.word.now _ lead.digits lead.within some) lead.value small
    c.short_whole.ensures)

pub returns-in-Some-eq47-default-clause-found : goal.returns-in-Some-eq47-default-clause-found
returns-in-Some-eq47-default-clause-found c =
    let lead = c.leading_value-top.ensures in
    let k = c.leading_value-top.result.1 in
    let some : 0 < k = grind (arith, nat_tests) in
    let here = c.in-Some-eq47-default.ensures.cases.0 in
    let mark = c.in-Some-eq47-default.field-0-0-test in
    let small = top_small c.leading_value-top.result.0 (length c.args.word.now - k) lead.room in
    ratio_found c.args.word.now _ _ k
    (mark_there c.args.word.now k lead.digits lead.within _ _ (sym c.split_at.ensures.back ∙ here)
    (slash_is_mark _ mark))
    refl c.split_at.ensures.back _ _ here mark _
    (ratio_read _ _ _ _ (front_numeral c.args.word.now k lead.digits lead.within some) lead.value
    small (c.short_ratio.ensures.some, c.short_ratio.ensures.value))

pub returns-in-Some-eq47-default-clause-only : goal.returns-in-Some-eq47-default-clause-only
returns-in-Some-eq47-default-clause-only c =
    let lead = c.leading_value-top.ensures in
    let k = c.leading_value-top.result.1 in
    let some : 0 < k = grind (arith, nat_tests) in
    let here = c.in-Some-eq47-default.ensures.cases.0 in
    let mark = c.in-Some-eq47-default.field-0-0-test in
    let small = top_small c.leading_value-top.result.0 (length c.args.word.now - k) lead.room in
    ratio_only c.args.word.now _ _ k
    (mark_there c.args.word.now k lead.digits lead.within _ _ (sym c.split_at.ensures.back ∙ here)
    (slash_is_mark _ mark))
    refl c.split_at.ensures.back _ _ here mark _
    (ratio_read _ _ _ _ (front_numeral c.args.word.now k lead.digits lead.within some) lead.value
    small (c.short_ratio.ensures.some, c.short_ratio.ensures.value))

pub returns-in-Some-eq46-default-clause-found : goal.returns-in-Some-eq46-default-clause-found
returns-in-Some-eq46-default-clause-found c =
    let lead = c.leading_value-top.ensures in
    let k = c.leading_value-top.result.1 in
    let some : 0 < k = grind (arith, nat_tests) in
    let here = c.in-Some-eq46-default.ensures.cases.0 in
    let mark = c.in-Some-eq46-default.field-0-0-test in
    point_found c.args.word.now _ _ k
    (mark_there c.args.word.now k lead.digits lead.within _ _ (sym c.split_at.ensures.back ∙ here)
    (point_is_mark _ mark))
    refl c.split_at.ensures.back _ _ here (point_no_slash _ mark) _
    (point_read _ _ _ _ (front_numeral c.args.word.now k lead.digits lead.within some) lead.value
    (c.short_point.ensures.some, c.short_point.ensures.value))

pub returns-in-Some-eq46-default-clause-only : goal.returns-in-Some-eq46-default-clause-only
returns-in-Some-eq46-default-clause-only c =
    let lead = c.leading_value-top.ensures in
    let k = c.leading_value-top.result.1 in
    let some : 0 < k = grind (arith, nat_tests) in
    let here = c.in-Some-eq46-default.ensures.cases.0 in
    let mark = c.in-Some-eq46-default.field-0-0-test in
    point_only c.args.word.now _ _ k
    (mark_there c.args.word.now k lead.digits lead.within _ _ (sym c.split_at.ensures.back ∙ here)
    (point_is_mark _ mark))
    refl c.split_at.ensures.back _ _ here (point_no_slash _ mark) _
    (point_read _ _ _ _ (front_numeral c.args.word.now k lead.digits lead.within some) lead.value
    (c.short_point.ensures.some, c.short_point.ensures.value))

pub returns-in-Some-clause-only : goal.returns-in-Some-clause-only
returns-in-Some-clause-only c = λ n d written small low some.
    let lead = c.leading_value-top.ensures in
    let k = c.leading_value-top.result.1 in
    no_number c.args.word.now k lead.digits lead.within _ _ (sym c.split_at.ensures.back
    ∙ c.in-Some.ensures.cases.0) lead.all c.in-Some.field-0-0-test.0.1
    c.in-Some.field-0-0-test.1 n d written
