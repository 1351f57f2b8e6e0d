use Rattle.std.proofs.Common.{◌≡◌, pos, ap, sym, subst, ◌∙◌, arith}
use Rattle.std.specs.Fmt.{signed_decimal}
use Rattle.std.proofs.lemmas.Int.{ints}
use Rattle.gj_frac.specs.Fraction.{Fits}
use Rattle.gj_lex.proofs.CanonicalTexts.{within_bits}
use Rattle.gj_forms.proofs.WholeNumbers.{text_over_one, no_whole, not_over_one}
use Rattle.gj_proof.proofs.fields.whole_of.Goals as goal

pub returns-in_err-x-clause-none : goal.returns-in_err-x-clause-none
returns-in_err-x-clause-none c = rw c.from_residual.ensures (no_whole _ c.in_err-x.ensures.none)

pub returns-then-den-ne1-clause-none : goal.returns-then-den-ne1-clause-none
returns-then-den-ne1-clause-none c =
    not_over_one _ c.in_ok-x.x c.in_ok-x.ensures.found
    (λ is. let den : c.den.result ≡ pos 1 = c.den.ensures ∙ is in
    c.if-den-ne1.true (rw den (omega arith)))

pub returns-clause-found : goal.returns-clause-found
returns-clause-found c =
    let x = c.in_ok-x.x in
    let one : x.den ≡ pos 1 = sym c.den.ensures ∙ omega (arith, ints) in
    let same = within_bits c.num.result x.num c.num.ensures x.lowest.num_fits in (
      c.in_ok-x.ensures.found ∙ text_over_one x one ∙ ap signed_decimal (sym same),
      subst Fits (sym same) x.lowest.num_fits,
    )
