use Rattle.std.proofs.Common.{◌≡◌, ◌++◌, pos, unsigned_abs, to_z, of_z, sym, ap, ◌∙◌, subst₂, append_assoc, arith}
use Rattle.std.specs.Fmt.{signed_decimal}
use Rattle.std.proofs.lemmas.Int.{ints}
use Rattle.gj_frac.specs.Fraction.{numerator, denominator}
use Rattle.gj_frac.specs.Lowest.{IsLowest}
use Rattle.gj_frac.specs.SameParts.{same_parts_same}
use Rattle.gj_lex.specs.NumberText.{denominator_text}
use Rattle.gj_lex.proofs.PrintedNumbers.{fraction_stands}
use Rattle.gj_lex.proofs.printed.printed_fraction.Goals as goal
use mir.Syntax.{w64}

pub returns-in_err-num-clause-none : goal.returns-in_err-num-clause-none
returns-in_err-num-clause-none g c = rw c.from_residual.ensures (λ x rest small low none other is.
    let h = fraction_stands _ rest x none is in
    c.in_err-num.ensures.none (numerator x) _ small h.2 h.0)

pub returns-in_err-den-clause-none : goal.returns-in_err-den-clause-none
returns-in_err-den-clause-none g c =
    rw c.from_residual-in_err-den.ensures (λ x rest small low none other is.
    let h = fraction_stands _ rest x none is in
    let num = c.in_ok-num.ensures.only (numerator x) _ small h.2 h.0 in
    c.in_err-den.ensures.none (unsigned_abs (denominator x)) rest h.1 low none other num.1)

pub returns-in_err-small_in_lowest_terms-clause-none :
    goal.returns-in_err-small_in_lowest_terms-clause-none
returns-in_err-small_in_lowest_terms-clause-none g c =
    rw c.from_residual-in_err-small_in_lowest_terms.ensures (λ x rest small low none other is.
    let h = fraction_stands _ rest x none is in
    let num = c.in_ok-num.ensures.only (numerator x) _ small h.2 h.0 in
    let den = c.in_ok-den.ensures.only (unsigned_abs (denominator x)) rest h.1 low none other
    num.1 in
    let num_is : to_z w64 (of_z w64 c.in_ok-num.num) ≡ numerator x =
    omega (arith, ints, num.0, small) in
    let positive = x.lowest.positive in
    let den_is : pos c.in_ok-den.den ≡ denominator x = omega (arith, ints, den.0) in
    let found = c.in_err-small_in_lowest_terms.ensures.only
    (subst₂ IsLowest (sym num_is) (sym den_is) x.lowest) in
    cc)

pub returns-clause-only : goal.returns-clause-only
returns-clause-only g c = λ x rest small low none other is.
    let h = fraction_stands _ rest x none is in
    let num = c.in_ok-num.ensures.only (numerator x) _ small h.2 h.0 in
    let den = c.in_ok-den.ensures.only (unsigned_abs (denominator x)) rest h.1 low none other
    num.1 in
    let found = c.in_ok-small_in_lowest_terms.ensures.found in
    let positive = x.lowest.positive in
    let num_is : numerator c.in_ok-small_in_lowest_terms.field-0 ≡ numerator x =
    omega (arith, ints, num.0, small, found.0) in
    let den_is : denominator c.in_ok-small_in_lowest_terms.field-0 ≡ denominator x =
    omega (arith, ints, den.0, found.1) in
    (same_parts_same _ x num_is den_is, den.1)

pub returns-clause-found : goal.returns-clause-found
returns-clause-found g c =
    let found = c.in_ok-small_in_lowest_terms.ensures.found in
    let num_is : numerator c.in_ok-small_in_lowest_terms.field-0 ≡ c.in_ok-num.num =
    omega (arith, ints, found.0) in
    rw (num_is, found.1)
    (c.in_ok-num.ensures.found
    ∙ ap (λ t. signed_decimal c.in_ok-num.num ++ t) c.in_ok-den.ensures.printed
    ∙ sym (append_assoc (signed_decimal c.in_ok-num.num)
    (denominator_text c.in_ok-den.den) c.in_ok-den.rest.now))
