use Rattle.std.proofs.Common.{arith}
use Rattle.gj_lex.proofs.SpelledWords.{count_is_numeral}
use Rattle.gj_lex.proofs.spelled.count_of.Goals as goal

pub returns-in_err-read_run-clause-none : goal.returns-in_err-read_run-clause-none
returns-in_err-read_run-clause-none c =
    rw c.from_residual.ensures
    (λ n small is.
    let h = count_is_numeral c.args.spelling c.args.word.now n is in
    c.in_err-read_run.ensures (h.0, omega (arith, h.1)))
