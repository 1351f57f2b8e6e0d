use Rattle.std.proofs.Common.{◌≡◌, ◌%◌, refl, sym, ap, ◌∙◌, arith}
use Rattle.std.proofs.lemmas.Option.{none-some}
use Rattle.std.proofs.lemmas.Int.{ints}
use Rattle.std.proofs.lemmas.Bool.{false≢true}
use Rattle.gj_lex.proofs.CanonicalTexts.{within_bits}
use Rattle.gj_function_lines.proofs.Places.{some_order, place_parts, place_found, product_is}
use Rattle.gj_function_lines.proofs.place.place_of.Goals as goal

pub returns-in_err-numerator-clause-none : goal.returns-in_err-numerator-clause-none
returns-in_err-numerator-clause-none c = rw c.from_residual.ensures (λ h.
    let p = place_parts _ _ _ h.0 c.args.fraction.lowest (some_order _ c.requires) h.2 in
    let is = within_bits _ _ c.num.ensures c.args.fraction.lowest.num_fits ∙ p.num_is in
    absurd (none-some p.n (sym c.in_err-numerator.was ∙ c.count_of.ensures.only p.n
    (omega (arith, p.num_at_most, h.1, c.requires)) is)))

pub returns-in_err-denominator-clause-none : goal.returns-in_err-denominator-clause-none
returns-in_err-denominator-clause-none c = rw c.from_residual-in_err-denominator.ensures (λ h.
    let p = place_parts _ _ _ h.0 c.args.fraction.lowest (some_order _ c.requires) h.2 in
    let is = within_bits _ _ c.den.ensures c.args.fraction.lowest.den_fits ∙ p.den_is in
    absurd (none-some p.d (sym c.in_err-denominator.was ∙ c.count_of-2.ensures.only p.d
    (omega (arith, p.den_at_most, c.requires)) is)))

pub returns-then-order-denominator-ne0-clause-none :
    goal.returns-then-order-denominator-ne0-clause-none
returns-then-order-denominator-ne0-clause-none c = λ h.
    let p = place_parts _ _ _ h.0 c.args.fraction.lowest (some_order _ c.requires) h.2 in
    let is = sym (within_bits _ _ c.den.ensures c.args.fraction.lowest.den_fits)
    ∙ c.in_ok-denominator.ensures.found in
    let same : c.in_ok-denominator.denominator ≡ p.d = omega (arith, ints, is, p.den_is) in
    absurd (c.if-order-denominator-ne0.true (ap (λ d. c.args.order % d) same ∙ p.divides))

pub returns-in_err-place-clause-none : goal.returns-in_err-place-clause-none
returns-in_err-place-clause-none c = rw c.from_residual-in_err-place.ensures (λ h.
    let p = place_parts _ _ _ h.0 c.args.fraction.lowest (some_order _ c.requires) h.2 in
    let is = product_is _ _ _ _ _ _
    (sym (within_bits _ _ c.num.ensures c.args.fraction.lowest.num_fits)
    ∙ c.in_ok-numerator.ensures.found)
    (sym (within_bits _ _ c.den.ensures c.args.fraction.lowest.den_fits)
    ∙ c.in_ok-denominator.ensures.found) p in
    absurd (c.in_err-place.ensures (omega (arith, is, h.1, c.requires))))

pub returns-then-not-is_place-clause-none : goal.returns-then-not-is_place-clause-none
returns-then-not-is_place-clause-none c = λ h.
    let p = place_parts _ _ _ h.0 c.args.fraction.lowest (some_order _ c.requires) h.2 in
    let is = product_is _ _ _ _ _ _
    (sym (within_bits _ _ c.num.ensures c.args.fraction.lowest.num_fits)
    ∙ c.in_ok-numerator.ensures.found)
    (sym (within_bits _ _ c.den.ensures c.args.fraction.lowest.den_fits)
    ∙ c.in_ok-denominator.ensures.found) p in
    let place_is = c.in_ok-place.ensures.1 in
    false≢true (c.if-not-is_place.ensures.1
    (omega (arith, is, place_is, h.1), omega (arith, is, place_is, h.1)))

pub returns-clause-found : goal.returns-clause-found
returns-clause-found c = (
  c.if-not-is_place.ensures.0 refl,
  place_found _ _ _ _ _ _
      (sym (within_bits _ _ c.num.ensures c.args.fraction.lowest.num_fits)
      ∙ c.in_ok-numerator.ensures.found)
      (sym (within_bits _ _ c.den.ensures c.args.fraction.lowest.den_fits)
      ∙ c.in_ok-denominator.ensures.found)
      c.if-order-denominator-ne0.false c.in_ok-place.ensures.1,
)
