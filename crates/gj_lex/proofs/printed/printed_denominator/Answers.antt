use Rattle.std.proofs.Common.{◌++◌, ap, sym, arith}
use Rattle.gj_lex.proofs.CanonicalTexts.{denominator_one}
use Rattle.gj_lex.proofs.PrintedNumbers.{denominator_printed, plain_denominator, slash_denominator}
use Rattle.gj_lex.proofs.printed.printed_denominator.Goals as goal

pub returns-in_default-clause-printed : goal.returns-in_default-clause-printed
returns-in_default-clause-printed g c = ap (λ t. t ++ c.args.text.now) (sym denominator_one)

pub returns-in_default-clause-only : goal.returns-in_default-clause-only
returns-in_default-clause-only g c = λ d rest some small none other is.
    let h = plain_denominator _ rest d some c.in_default.ensures.none is in
    (sym h.0, h.1)

pub returns-in_err-den-clause-none : goal.returns-in_err-den-clause-none
returns-in_err-den-clause-none g c = rw c.from_residual.ensures (λ d rest some small none other is.
    let h = slash_denominator _ _ rest d some other c.in-Some.ensures.found is in
    c.in_err-den.ensures.none d rest small none h.1)

pub returns-then-den-lt2-clause-none : goal.returns-then-den-lt2-clause-none
returns-then-den-lt2-clause-none g c = λ d rest some small none other is.
    let h = slash_denominator _ _ rest d some other c.in-Some.ensures.found is in
    let read = c.in_ok-den.ensures.only d rest small none h.1 in
    omega (arith, read.0, h.0, c.if-den-lt2.true)

pub returns-clause-only : goal.returns-clause-only
returns-clause-only g c = λ d rest some small none other is.
    let h = slash_denominator _ _ rest d some other c.in-Some.ensures.found is in
    c.in_ok-den.ensures.only d rest small none h.1

pub returns-clause-printed : goal.returns-clause-printed
returns-clause-printed g c =
    denominator_printed _ _ _ c.in_ok-den.den c.in-Some.ensures.found c.in_ok-den.ensures.printed
    (omega (arith, c.if-den-lt2.false))
