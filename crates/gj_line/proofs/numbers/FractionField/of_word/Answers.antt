use Rattle.std.proofs.Common.{inr, refl}
use Rattle.gj_line.proofs.SpelledNumbers.{zero}
use Rattle.gj_line.proofs.numbers.FractionField.of_word.Goals as goal

pub returns-in-None-clause-fault : goal.returns-in-None-clause-fault
returns-in-None-clause-fault c = inr (refl, (zero, refl, tt), λ x h k. c.in-None.ensures.none x h)
