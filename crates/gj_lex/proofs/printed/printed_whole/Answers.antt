use Rattle.std.proofs.Common.{unsigned_abs, arith}
use Rattle.std.proofs.lemmas.Int.{ints}
use Rattle.gj_lex.proofs.PrintedNumbers.{minus_number}
use Rattle.gj_lex.proofs.printed.printed_whole.Goals as goal

pub returns-in_err-size-2-clause-none : goal.returns-in_err-size-2-clause-none
returns-in_err-size-2-clause-none g c =
    rw c.from_residual-in_err-size-2.ensures (λ n rest small none is.
    let h = minus_number _ _ rest n small c.in-Some.ensures.found is in
    c.in_err-size-2.ensures.none (unsigned_abs n) rest small none h.2)

pub returns-then-size-eq0-clause-none : goal.returns-then-size-eq0-clause-none
returns-then-size-eq0-clause-none g c = λ n rest small none is.
    let h = minus_number _ _ rest n small c.in-Some.ensures.found is in
    let read = c.in_ok-size-2.ensures.only (unsigned_abs n) rest small none h.2 in
    omega (arith, read.0, h.1)

pub returns-clause-only : goal.returns-clause-only
returns-clause-only g c = λ n rest small none is.
    let h = minus_number _ _ rest n small c.in-Some.ensures.found is in
    let read = c.in_ok-size-2.ensures.only (unsigned_abs n) rest small none h.2 in
    let few = c.in_ok-size-2.ensures.small in
    (omega (arith, ints, read.0, h.0, few), read.1)
