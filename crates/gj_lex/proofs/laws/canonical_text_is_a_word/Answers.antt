use Rattle.std.proofs.Common.{arith}
use Rattle.gj_lex.proofs.SpelledWords.{canonical_fraction, canonical_count}
use Rattle.gj_lex.proofs.laws.canonical_text_is_a_word.Goals as goal

pub returns-clause-fraction : goal.returns-clause-fraction
returns-clause-fraction c = canonical_fraction

pub returns-clause-count : goal.returns-clause-count
returns-clause-count c = λ s n small. canonical_count s n (omega arith)
