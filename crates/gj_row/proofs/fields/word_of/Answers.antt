use Rattle.std.proofs.Common.{refl}
use Rattle.gj_lex.proofs.CanonicalTexts.{empty_word}
use Rattle.gj_row.proofs.fields.word_of.Goals as goal

pub returns-then-is_empty : goal.returns-then-is_empty
returns-then-is_empty c = rw (empty_word c.args.field.now c.if-is_empty.ensures) refl
