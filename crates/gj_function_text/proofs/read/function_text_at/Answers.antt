use Rattle.std.proofs.lemmas.Bool.{false≢true}
use Rattle.gj_lex.specs.declared.spelling.Spelling.TheVariants.{Lenient}
use Rattle.gj_forms.specs.Parts.{BeginsWithLine}
use Rattle.gj_forms.proofs.WhereLaws.{reading_where, reading_else}
use Rattle.gj_function_text.specs.FunctionText.{breaks_title_words, points_text, breaks_text}
use Rattle.gj_function_text.proofs.read.function_text_at.Goals as goal

pub returns-then-begins_with_line : goal.returns-then-begins_with_line
returns-then-begins_with_line c =
    reading_where (BeginsWithLine Lenient breaks_title_words) breaks_text points_text
    c.args.text.now _ (c.begins_with_line.ensures.0 c.if-begins_with_line.true)
    c.breaks_text_at.ensures

pub returns-else-begins_with_line : goal.returns-else-begins_with_line
returns-else-begins_with_line c =
    reading_else (BeginsWithLine Lenient breaks_title_words) breaks_text points_text
    c.args.text.now _ (λ is. false≢true (c.if-begins_with_line.ensures.1 is))
    c.points_text_at.ensures
