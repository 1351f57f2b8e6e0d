use Rattle.std.proofs.Common.{refl, sym, ap, ◌∙◌, slice_get}
use Rattle.std.proofs.lemmas.Bool.{true≢false}
use Rattle.gj_row.specs.Reading.{words_in}
use Rattle.gj_row.proofs.HeaderWords.{first_two}
use Rattle.gj_row.proofs.header.begins_header.Goals as goal

pub returns-then-has_word : goal.returns-then-has_word
returns-then-has_word c = (
  λ t. first_two _ _ (words_in c.args.fields.now) (c.if-has_word.ensures.0 refl)
      (c.has_word-then-has_word.ensures.0 t),
  λ h. c.has_word-then-has_word.ensures.1 (ap (λ l. slice_get l 1) h.1),
)

pub returns-else-has_word : goal.returns-else-has_word
returns-else-has_word c = (
  λ t. absurd (true≢false (sym t ∙ c.if-has_word.false)),
  λ h. c.has_word.ensures.1 (ap (λ l. slice_get l 0) h.1),
)
