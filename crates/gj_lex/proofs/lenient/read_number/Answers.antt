use Rattle.std.proofs.Common.{true, false, pos, subst, sym, ◌∙◌}
use Rattle.gj_frac.proofs.SameValues.{negation_is}
use Rattle.gj_lex.specs.NumberText.{IsWritten}
use Rattle.gj_lex.proofs.SignedNumbers.{number_found, number_only}
use Rattle.gj_lex.proofs.lenient.read_number.Goals as goal

pub returns-in_err-size-clause-only : goal.returns-in_err-size-clause-only
returns-in_err-size-clause-only c = λ n d text.
    absurd
    (c.in_err-size.ensures.only text.top d
    (subst (λ bs. IsWritten bs text.top d) (sym c.without_sign.ensures) text.written) text.top_fits
    text.bottom_fits text.bottom_some)

pub returns-then-begins_with-clause-found : goal.returns-then-begins_with-clause-found
returns-then-begins_with-clause-found c =
    let read = c.in_ok-size.ensures.found in
    number_found c.args.word.now _ true read.0 read.1 c.neg.result c.without_sign.ensures
    (sym c.if-begins_with.true ∙ c.begins_with.ensures)
    read.2 read.3 read.4 read.5
    (negation_is c.in_ok-size.size c.neg.result (pos read.0) (pos read.1) c.neg.ensures read.6)

pub returns-then-begins_with-clause-only : goal.returns-then-begins_with-clause-only
returns-then-begins_with-clause-only c = λ n d text.
    let is = c.in_ok-size.ensures.only text.top d
    (subst (λ bs. IsWritten bs text.top d) (sym c.without_sign.ensures) text.written) text.top_fits
    text.bottom_fits text.bottom_some in
    number_only c.args.word.now true c.neg.result n d text
    (sym c.if-begins_with.true ∙ c.begins_with.ensures)
    (negation_is c.in_ok-size.size c.neg.result (pos text.top) (pos d) c.neg.ensures is)

pub returns-clause-found : goal.returns-clause-found
returns-clause-found c =
    let read = c.in_ok-size.ensures.found in
    number_found c.args.word.now _ false read.0 read.1 c.in_ok-size.size c.without_sign.ensures
    (sym c.if-begins_with.false ∙ c.begins_with.ensures)
    read.2 read.3 read.4 read.5 read.6

pub returns-clause-only : goal.returns-clause-only
returns-clause-only c = λ n d text.
    number_only c.args.word.now false c.in_ok-size.size n d text (sym c.if-begins_with.false
    ∙ c.begins_with.ensures)
    (c.in_ok-size.ensures.only text.top d
    (subst (λ bs. IsWritten bs text.top d) (sym c.without_sign.ensures) text.written) text.top_fits
    text.bottom_fits text.bottom_some)
