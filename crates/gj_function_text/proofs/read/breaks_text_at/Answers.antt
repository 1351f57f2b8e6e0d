use Rattle.gj_lex.specs.declared.spelling.Spelling.TheVariants.{Lenient}
use Rattle.gj_forms.specs.Parts.{words_rule, line_part}
use Rattle.gj_forms.proofs.PartLaws.{reading_behind}
use Rattle.gj_function_text.specs.BreaksText.{breaks_part}
use Rattle.gj_function_text.specs.FunctionText.{breaks_title_words}
use Rattle.gj_function_text.proofs.read.breaks_text_at.Goals as goal

pub returns : goal.returns
returns c =
    reading_behind (line_part Lenient (words_rule breaks_title_words)) (λ t. breaks_part)
    c.args.text.now tt c.in_ok-rest.rest.now _ c.in_ok-rest.ensures.passed c.breaks_at.ensures
