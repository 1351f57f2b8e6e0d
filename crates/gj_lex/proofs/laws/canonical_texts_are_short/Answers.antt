use Rattle.gj_lex.proofs.SpelledWords.{fraction_is_short, count_is_short}
use Rattle.gj_lex.proofs.laws.canonical_texts_are_short.Goals as goal

pub returns-clause-fraction : goal.returns-clause-fraction
returns-clause-fraction c = fraction_is_short

pub returns-clause-count : goal.returns-clause-count
returns-clause-count c = count_is_short
