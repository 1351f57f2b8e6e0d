use Rattle.std.proofs.Common.{◌≡◌, ◌<◌, ◌+◌, ◌∷◌, ◌++◌, drop, sym, ◌∙◌, ap, arith}
use Rattle.std.proofs.lemmas.Bool.Decides.{nat_tests}
use Rattle.std.proofs.lemmas.List.{take_rest}
use Rattle.gj_lex.proofs.LeadingNumbers.{no_digit_first, parts_of_split, point_begins, point_small, whole_read}
use Rattle.gj_lex.proofs.leading.leading_digits.Goals as goal

pub returns-else-places-eq0-clause-found : goal.returns-else-places-eq0-clause-found
returns-else-places-eq0-clause-found c =
    let text = c.args.text.now in
    let near = c.split_at.result.0.now in
    let far = c.split_at.result.1.now in
    let lead = c.leading_value-whole.ensures in
    let more = c.leading_value_by_lanes-top.ensures in
    let k = c.leading_value-whole.result.1 in
    let j = c.leading_value_by_lanes-top.result.1 in
    let point = c.in-Some-eq46-default in
    let parts = parts_of_split text near far c.min.result c.split_at.ensures.front
    c.split_at.ensures.back in
    let at : drop k near ≡ 46 ∷ point.digits.now =
    sym c.split_at-2.ensures.back ∙ point.ensures.cases.0
    ∙ ap (λ b. b ∷ point.digits.now) point.field-0-0-test in
    let some : 0 < k = grind (arith, nat_tests) in
    let few : 0 < j = grind (arith, nat_tests) in
    let begins = point_begins text near far parts k lead.digits lead.within some
    c.leading_value-whole.result.0 lead.value point.digits.now at
    j c.leading_value_by_lanes-top.result.0 more.digits more.within few more.value in (
      begins.0,
      begins.1 ∙ ap (λ b. begins.0 ++ b) (sym (take_rest text (k + 1 + j))),
      begins.2,
      point_small text near far parts k lead.digits lead.within some c.leading_value-whole.result.0
          lead.value point.digits.now at
          j c.leading_value_by_lanes-top.result.0 more.digits more.within more.value
          (omega (arith, c.split_at.ensures.front_len, c.min.ensures)),
      omega (
        arith,
        more.within,
        point.ensures.cases.1,
        c.split_at-2.ensures.back_len,
        c.split_at.ensures.front_len,
        c.min.ensures,
      ),
    )

pub returns-then-count-eq0-clause-none : goal.returns-then-count-eq0-clause-none
returns-then-count-eq0-clause-none c =
    let text = c.args.text.now in
    let near = c.split_at.result.0.now in
    let far = c.split_at.result.1.now in
    let parts = parts_of_split text near far c.min.result c.split_at.ensures.front
    c.split_at.ensures.back in
    no_digit_first text near far c.leading_value-whole.result.1 parts
    (λ none. omega (arith, none, c.split_at.ensures.front_len, c.min.ensures))
    (grind (arith, nat_tests)) c.leading_value-whole.ensures.all

pub returns-then-places-eq0-clause-found : goal.returns-then-places-eq0-clause-found
returns-then-places-eq0-clause-found c =
    let text = c.args.text.now in
    let near = c.split_at.result.0.now in
    let far = c.split_at.result.1.now in
    let lead = c.leading_value-whole.ensures in
    let k = c.leading_value-whole.result.1 in
    let parts = parts_of_split text near far c.min.result c.split_at.ensures.front
    c.split_at.ensures.back in
    let some : 0 < k = grind (arith, nat_tests) in
    whole_read text near far parts k lead.digits lead.within some c.leading_value-whole.result.0
    lead.value _ (take_rest text k)
    (omega (arith, c.split_at.ensures.front_len, c.min.ensures))

pub returns-in_default-clause-found : goal.returns-in_default-clause-found
returns-in_default-clause-found c =
    let text = c.args.text.now in
    let near = c.split_at.result.0.now in
    let far = c.split_at.result.1.now in
    let lead = c.leading_value-whole.ensures in
    let k = c.leading_value-whole.result.1 in
    let parts = parts_of_split text near far c.min.result c.split_at.ensures.front
    c.split_at.ensures.back in
    let some : 0 < k = grind (arith, nat_tests) in
    whole_read text near far parts k lead.digits lead.within some c.leading_value-whole.result.0
    lead.value _ (take_rest text k)
    (omega (arith, c.split_at.ensures.front_len, c.min.ensures))
