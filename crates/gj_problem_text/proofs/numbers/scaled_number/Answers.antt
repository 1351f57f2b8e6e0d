use Rattle.std.proofs.Common.{true, pos, sym, ◌∙◌}
use Rattle.gj_frac.proofs.SameValues.{negation_is}
use Rattle.gj_problem_text.proofs.WordsRead.{none_with_sign, sign_found}
use Rattle.gj_problem_text.proofs.numbers.scaled_number.Goals as goal

pub returns-in_err-size-clause-none : goal.returns-in_err-size-clause-none
returns-in_err-size-clause-none c =
    rw c.from_residual.ensures
    (none_with_sign c.args.word.now c.split_sign-is_negative.result.1.now
    c.split_sign-is_negative.ensures.rest c.in_err-size.ensures.none)

pub returns-then-is_negative-clause-found : goal.returns-then-is_negative-clause-found
returns-then-is_negative-clause-found c =
    let (s, front, rest, parts, prefix, n, d, scaled, value) = c.in_ok-size.ensures.found in
    sign_found c.args.word.now c.split_sign-is_negative.result.1.now true s front rest n d
    c.neg.result c.split_sign-is_negative.ensures.rest
    (sym c.if-is_negative.true ∙ c.split_sign-is_negative.ensures.sign) parts prefix scaled
    (negation_is c.in_ok-size.size c.neg.result (pos n) (pos d) c.neg.ensures value)
