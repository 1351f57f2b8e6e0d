use Rattle.gj_lex.specs.declared.spelling.Spelling.TheVariants.{Lenient}
use Rattle.gj_forms.specs.Parts.{line_part, loop_part}
use Rattle.gj_forms.proofs.PartLaws.{reading_behind}
use Rattle.gj_function_text.specs.BreaksText.{start_rule, next_break}
use Rattle.gj_function_text.proofs.breaks.breaks_at.Goals as goal

pub returns : goal.returns
returns c =
    reading_behind (line_part Lenient start_rule) (λ s. loop_part next_break s) c.args.text.now
    c.in_ok-breaks.breaks c.in_ok-breaks.lines.now _ c.in_ok-breaks.ensures c.more_breaks_at.ensures
