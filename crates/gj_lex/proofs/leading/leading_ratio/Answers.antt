use Rattle.std.proofs.Common.{◌<◌, ◌∷◌, ◌++◌, drop, sym, ◌∙◌, ap, arith}
use Rattle.std.specs.Int.{from_bool}
use Rattle.std.proofs.lemmas.Bool.Decides.{nat_tests}
use Rattle.std.proofs.lemmas.List.{take_rest}
use Rattle.gj_lex.proofs.LeadingNumbers.{no_numeral_first, ratio_begins, signed_begins}
use Rattle.gj_lex.proofs.leading.leading_ratio.Goals as goal

pub returns-in_err-bottom-clause-none : goal.returns-in_err-bottom-clause-none
returns-in_err-bottom-clause-none c =
    rw c.from_residual-in_err-bottom.ensures (λ short.
    let text = c.args.text.now in
    let behind_is = take_rest text c.from.result ∙ ap (λ i. drop i text) c.from.ensures
    ∙ ap (λ b. drop (from_bool b) text) c.begins_with-minus.ensures in
    let top = c.in_ok-top.ensures.only short.front (47 ∷ (short.back ++ short.rest))
    (behind_is ∙ short.text_is) short.front_digits.1 short.front_few
    (λ digit. omega (arith, digit)) in
    let after = ap (drop 1) (sym c.in_ok-behind_byte.ensures.found ∙ top.1) in
    no_numeral_first _ short.back short.rest c.in_err-bottom.ensures.none short.back_digits after)

pub returns-clause-found : goal.returns-clause-found
returns-clause-found c =
    let text = c.args.text.now in
    let top = c.in_ok-top.ensures.found in
    let bottom = c.in_ok-bottom.ensures.found in
    let some : 0 < c.in_ok-bottom.bottom = grind (arith, nat_tests) in
    signed_begins text _ c.in_ok-bottom.rest.now c.begins_with-minus.result c.in_ok-top.top
    c.in_ok-bottom.bottom c.signed_ratio.result c.begins_with-minus.ensures
    (take_rest text c.from.result ∙ ap (λ i. drop i text) c.from.ensures)
    (ratio_begins _ _ _ top.0 bottom.0 _ _ _ top.1 c.in_ok-behind_byte.ensures.found bottom.1
    top.2 bottom.2 top.3 bottom.3)
    (omega (arith, top.4)) (omega (arith, bottom.4)) some c.signed_ratio.ensures
