use Rattle.std.proofs.lemmas.Option.{IfSome_then}
use Rattle.gj_problem_text.proofs.WordsRead.{none_then, no_mark, no_mantissa, no_value, value_found}
use Rattle.gj_problem_text.proofs.numbers.scaled_of.Goals as goal

pub returns-in_err-mantissa-clause-none : goal.returns-in_err-mantissa-clause-none
returns-in_err-mantissa-clause-none c =
    rw c.from_residual.ensures
    (λ n d h x is. no_mark c.args.notation c.marks-mark.result c.args.word.now c.marks-mark.ensures
    c.in_err-mantissa.ensures.none n d h)

pub returns-in_err-top-clause-none : goal.returns-in_err-top-clause-none
returns-in_err-top-clause-none c =
    let (b, is_mark, parts, none) = c.in_ok-mantissa.ensures.found in
    rw c.from_residual-in_err-top.ensures
    (λ n d h x is.
    no_mantissa c.args.notation c.marks-mark.result c.args.word.now c.in_ok-mantissa.mantissa.now
    c.in_ok-mantissa.exponent.now b c.marks-mark.ensures is_mark parts none
    c.in_err-top.ensures.none n d h)

pub returns-clause-found : goal.returns-clause-found
returns-clause-found c =
    let (b, is_mark, parts, none) = c.in_ok-mantissa.ensures.found in
    IfSome_then c.with_exponent.result c.with_exponent.ensures.found
    (λ x h.
    value_found c.args.notation c.marks-mark.result c.args.word.now c.in_ok-mantissa.mantissa.now
    c.in_ok-mantissa.exponent.now b c.marks-mark.ensures is_mark parts none
    c.in_ok-top.top c.in_ok-top.places c.in_ok-top.ensures.found.0 c.in_ok-top.ensures.found.1 x
    h.0 h.1)

pub returns-clause-none : goal.returns-clause-none
returns-clause-none c =
    let (b, is_mark, parts, none) = c.in_ok-mantissa.ensures.found in
    none_then c.with_exponent.result c.with_exponent.ensures.none
    (no_value c.args.notation c.marks-mark.result c.args.word.now c.in_ok-mantissa.mantissa.now
    c.in_ok-mantissa.exponent.now b c.marks-mark.ensures is_mark parts none
    c.in_ok-top.top c.in_ok-top.places c.in_ok-top.ensures.found.0)
