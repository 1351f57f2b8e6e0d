use Rattle.std.proofs.Common.{◌≡◌, ◌≤◌, ◌∙◌, ap, subst, take, length, refl, arith}
use Rattle.std.specs.Str.Parse.{AllDigits, digits_value}
use Rattle.std.proofs.lemmas.List.{take-take, length-take-le}
use Rattle.gj_lex.proofs.PrintedNumbers.{few_digits_small, number_printed, number_stands, digits_canonical, digits_dropped, digits_spell}
use Rattle.gj_lex.proofs.printed.printed_number.Goals as goal

pub returns-then-not-is_canonical-clause-none : goal.returns-then-not-is_canonical-clause-none
returns-then-not-is_canonical-clause-none g c = λ n rest small none is.
    let lead = c.front_value-number.ensures in
    let len = c.front_value-number.result.1 in
    let stands = number_stands _ _ rest c.min.result len n c.split_at.ensures.front c.min.ensures
    lead.digits lead.within lead.all small none is in
    let digits = c.if-not-is_canonical.ensures.1
    (digits_canonical _ rest len n small is stands _ c.split_at-2.ensures.front) in
    cc

pub returns-clause-only : goal.returns-clause-only
returns-clause-only g c = λ n rest small none is.
    let lead = c.front_value-number.ensures in
    let len = c.front_value-number.result.1 in
    let stands = number_stands _ _ rest c.min.result len n c.split_at.ensures.front c.min.ensures
    lead.digits lead.within lead.all small none is in
    let same : take len c.split_at.result.0.now ≡ take len c.args.text.now =
    ap (take len) c.split_at.ensures.front
    ∙ take-take len c.min.result c.args.text.now
    (omega (arith, lead.within, c.split_at.ensures.front_len)) in (
      lead.value ∙ ap (digits_value 10) same ∙ digits_spell _ rest len n small is stands,
      c.split_at-2.ensures.back ∙ digits_dropped _ rest len n small is stands,
    )

pub returns-clause-small : goal.returns-clause-small
returns-clause-small g c =
    let lead = c.front_value-number.ensures in
    let len = c.front_value-number.result.1 in
    let few : length (take len c.split_at.result.0.now) ≤ 18 =
    omega (
      arith,
      length-take-le len c.split_at.result.0.now lead.within,
      lead.within,
      c.split_at.ensures.front_len,
      c.min.ensures,
    ) in
    omega (arith, lead.value, few_digits_small _ lead.digits few)

pub returns-clause-printed : goal.returns-clause-printed
returns-clause-printed g c =
    let lead = c.front_value-number.ensures in
    let len = c.front_value-number.result.1 in
    let few : length (take len c.split_at.result.0.now) ≤ 18 =
    omega (
      arith,
      length-take-le len c.split_at.result.0.now lead.within,
      lead.within,
      c.split_at.ensures.front_len,
      c.min.ensures,
    ) in
    let same : take len c.split_at.result.0.now ≡ take len c.args.text.now =
    ap (take len) c.split_at.ensures.front
    ∙ take-take len c.min.result c.args.text.now
    (omega (arith, lead.within, c.split_at.ensures.front_len)) in
    let digits = c.if-not-is_canonical.ensures.0 refl in
    number_printed _ _ _ len _ c.split_at-2.ensures.front c.split_at-2.ensures.back
    (subst (AllDigits 10) same lead.digits)
    (lead.value ∙ ap (digits_value 10) same)
    (omega (arith, lead.value, few_digits_small _ lead.digits few))
    digits.0 digits.1
