use Rattle.std.proofs.Common.{◌≡◌, ◌<◌, take, ◌∙◌, ap, arith}
use Rattle.std.specs.Str.Parse.{digits_value}
use Rattle.std.proofs.lemmas.Bool.Decides.{nat_tests}
use Rattle.std.proofs.lemmas.List.{take-take, take_rest}
use Rattle.gj_lex.proofs.LeadingNumbers.{number_read, parts_of_split}
use Rattle.gj_lex.proofs.PrintedNumbers.{digits_stand, front_dropped, front_taken}
use Rattle.gj_lex.proofs.leading.leading_number.Goals as goal

pub returns-clause-found : goal.returns-clause-found
returns-clause-found c =
    let text = c.args.text.now in
    let near = c.split_at.result.0.now in
    let far = c.split_at.result.1.now in
    let lead = c.leading_value-number.ensures in
    let k = c.leading_value-number.result.1 in
    let parts = parts_of_split text near far c.min.result c.split_at.ensures.front
    c.split_at.ensures.back in
    let some : 0 < k = grind (arith, nat_tests) in
    number_read text near far parts k lead.digits lead.within some c.leading_value-number.result.0
    lead.value _ (take_rest text k)
    (omega (arith, c.split_at.ensures.front_len, c.min.ensures))

pub returns-clause-only : goal.returns-clause-only
returns-clause-only c = λ digits rest is spelled few none.
    let text = c.args.text.now in
    let near = c.split_at.result.0.now in
    let lead = c.leading_value-number.ensures in
    let k = c.leading_value-number.result.1 in
    let k_is = digits_stand text near digits rest c.min.result k c.split_at.ensures.front
    c.min.ensures lead.digits lead.within lead.all spelled few none is in
    let same : take k near ≡ take k text = ap (take k) c.split_at.ensures.front
    ∙ take-take k c.min.result text (omega (arith, lead.within, c.split_at.ensures.front_len)) in (
      lead.value ∙ ap (digits_value 10) (same ∙ front_taken text digits rest k is k_is),
      take_rest text k ∙ front_dropped text digits rest k is k_is,
    )
