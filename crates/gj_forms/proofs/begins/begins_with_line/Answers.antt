use Rattle.gj_forms.proofs.WhereLaws.{line_is_told}
use Rattle.gj_forms.proofs.begins.begins_with_line.Goals as goal

pub returns : goal.returns
returns c = line_is_told _ _ _ _ _ c.is_ok.ensures.value c.words_at.ensures.passed
    c.words_at.ensures.no_memory
