use Rattle.gj_derivation_text.proofs.WordLines.{has_word}
use Rattle.gj_derivation_text.proofs.words.word_line_at.Goals as goal

pub unreachable-requires : goal.unreachable-requires
unreachable-requires c = has_word _ _ _ _ c.in_ok-line.ensures.found c.in_default.ensures.none
