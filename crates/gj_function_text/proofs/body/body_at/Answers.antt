use Rattle.std.proofs.Common.{codes}
use Rattle.std.proofs.lemmas.Bool.{false≢true}
use Rattle.gj_lex.specs.declared.spelling.Spelling.TheVariants.{Lenient}
use Rattle.gj_forms.specs.Parts.{BeginsWithWord}
use Rattle.gj_forms.proofs.WhereLaws.{reading_where, reading_else}
use Rattle.gj_function_lines.specs.FunctionGrammar.{function_part}
use Rattle.gj_function_text.specs.FunctionText.{family_part}
use Rattle.gj_function_text.proofs.body.body_at.Goals as goal

pub returns-then-begins_with_word : goal.returns-then-begins_with_word
returns-then-begins_with_word c =
    reading_where (BeginsWithWord Lenient (codes "family")) family_part (function_part Lenient)
    c.args.text.now _ (c.begins_with_word.ensures.0 c.if-begins_with_word.true) c.family_at.ensures

pub returns-else-begins_with_word : goal.returns-else-begins_with_word
returns-else-begins_with_word c =
    reading_else (BeginsWithWord Lenient (codes "family")) family_part (function_part Lenient)
    c.args.text.now _ (λ is. false≢true (c.if-begins_with_word.ensures.1 is)) c.function_at.ensures
