use Rattle.std.proofs.Common.{⊎_elim}
use Rattle.gj_problem_text.proofs.WordsRead.{none_by_test, none_then}
use Rattle.gj_problem_text.proofs.numbers.number_of.Goals as goal

pub returns-then-is_none-clause-none : goal.returns-then-is_none-clause-none
returns-then-is_none-clause-none c =
    let plain = none_by_test c.fraction_of-number.result c.if-is_none.ensures
    c.fraction_of-number.ensures.none in
    none_then c.scaled_number-number.result c.scaled_number-number.ensures.none
    (λ none x h. ⊎_elim (λ k. plain x k) (λ k. none k.0 x k.1) h)
