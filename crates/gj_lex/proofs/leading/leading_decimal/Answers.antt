use Rattle.std.proofs.Common.{◌^◌, drop, ◌∙◌, ap, arith}
use Rattle.std.proofs.Math.Nat.{one-le-pow}
use Rattle.std.proofs.lemmas.List.{take_rest}
use Rattle.gj_frac.proofs.TenPowers.{ten_small}
use Rattle.gj_lex.proofs.LeadingNumbers.{signed_begins}
use Rattle.gj_lex.proofs.leading.leading_decimal.Goals as goal

pub returns-clause-found : goal.returns-clause-found
returns-clause-found c =
    let text = c.args.text.now in
    let read = c.in_ok-top.ensures.found in
    let places = c.in_ok-top.places in
    signed_begins text _ c.in_ok-top.rest.now c.begins_with-minus.result c.in_ok-top.top
    (10 ^ places) c.short_decimal.result
    c.begins_with-minus.ensures (take_rest text c.from.result
    ∙ ap (λ i. drop i text) c.from.ensures) (read.0, read.1, read.2)
    (omega (arith, read.3)) (ten_small places (omega (arith, read.4)))
    (one-le-pow places 10 (omega arith))
    c.short_decimal.ensures
