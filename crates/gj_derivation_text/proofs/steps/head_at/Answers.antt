use Rattle.gj_lex.specs.declared.spelling.Spelling.TheVariants.{Lenient}
use Rattle.gj_forms.proofs.WhereLaws.{line_is_shorter}
use Rattle.gj_derivation_text.proofs.steps.head_at.Goals as goal

pub returns-in-Ok-clause-shorter : goal.returns-in-Ok-clause-shorter
returns-in-Ok-clause-shorter c = line_is_shorter Lenient _ _ _ _ c.in_ok-line.ensures.found
