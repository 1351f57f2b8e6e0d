use Rattle.std.proofs.Common.{◌≡◌, ◌↔◌, length}
use Rattle.gj_lex.specs.Words.{word_texts}
use Rattle.gj_forms.proofs.fields.has_words.Given as goal

abbrev pub invariant-loop-word : goal.invariant-loop-word
invariant-loop-word l = (word_texts l.left ≡ word_texts l.wanted)
    ↔ (word_texts l.line ≡ word_texts l.other)

abbrev pub decreases-loop-word : goal.decreases-loop-word
decreases-loop-word l = length (word_texts l.wanted)
