use Rattle.std.proofs.Common.{ap, arith}
use Rattle.std.proofs.lemmas.Int.{ints}
use Rattle.gj_frac.specs.Fraction.{numerator}
use Rattle.gj_problem_text.proofs.OneNumber.{one_number_word}
use Rattle.gj_derivation_text.proofs.lines.positive_of.Goals as goal

pub returns-in_err-x-clause-none : goal.returns-in_err-x-clause-none
returns-in_err-x-clause-none c = rw c.from_residual.ensures (λ x is some. c.in_err-x.ensures.none x is)

pub returns-then-num-le0-clause-none : goal.returns-then-num-le0-clause-none
returns-then-num-le0-clause-none c = λ y is some.
    let same = ap numerator (one_number_word _ _ y c.in_ok-x.ensures.found is) in
    omega (arith, ints, same, some, c.if-num-le0.true, c.num.ensures)
