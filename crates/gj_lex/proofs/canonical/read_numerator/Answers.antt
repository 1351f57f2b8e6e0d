use Rattle.std.proofs.Common.{◌≡◌, Some, ap, arith, unwrap_or, unsigned_abs}
use Rattle.std.proofs.lemmas.Int.{ints}
use Rattle.gj_lex.proofs.CanonicalTexts.{negative_read}
use Rattle.gj_lex.proofs.canonical.read_numerator.Goals as goal

pub returns-in_err-n-in-Some-clause-only : goal.returns-in_err-n-in-Some-clause-only
returns-in_err-n-in-Some-clause-only c = λ n small e.
    let h = negative_read _ _ n c.in-Some.ensures.cases.0 c.in-Some.ensures.cases.1 small e in
    let none = c.in_err-n-in-Some.ensures.only (unsigned_abs n) small h.1 in
    cc

pub returns-in-0-clause-only : goal.returns-in-0-clause-only
returns-in-0-clause-only c = λ n small e.
    let h = negative_read _ _ n c.in-Some.ensures.cases.0 c.in-Some.ensures.cases.1 small e in
    let same : c.in_ok-n-in-Some.n ≡ unsigned_abs n =
    ap (λ o. unwrap_or o 0) (c.in_ok-n-in-Some.ensures.only (unsigned_abs n) small h.1) in
    absurd (omega (arith, h.0))

pub returns-in_default-clause-only : goal.returns-in_default-clause-only
returns-in_default-clause-only c = λ n small e.
    let h = negative_read _ _ n c.in-Some.ensures.cases.0 c.in-Some.ensures.cases.1 small e in
    let same : c.in_ok-n-in-Some.n ≡ unsigned_abs n =
    ap (λ o. unwrap_or o 0) (c.in_ok-n-in-Some.ensures.only (unsigned_abs n) small h.1) in
    ap Some (omega (arith, ints, h.2))
