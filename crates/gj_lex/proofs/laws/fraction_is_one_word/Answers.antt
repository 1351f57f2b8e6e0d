use Rattle.gj_lex.proofs.WordBytes.{fraction_some, fraction_bytes, fraction_is_word}
use Rattle.gj_lex.proofs.laws.fraction_is_one_word.Goals as goal

pub returns : goal.returns
returns c = record { some = fraction_some; bytes = fraction_bytes; word = fraction_is_word }
