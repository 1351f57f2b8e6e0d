use Rattle.gj_function_text.proofs.FamilyRead.{no_line_words}
use Rattle.gj_function_text.proofs.family.line_words.Goals as goal

pub returns-in_err-count-clause-none : goal.returns-in_err-count-clause-none
returns-in_err-count-clause-none c =
    rw c.from_residual-in_err-count.ensures
    (no_line_words _ _ c.in_ok-line.ensures.found c.in_default.ensures.none
    c.in_default-field_of.ensures.none c.in_err-count.ensures.none)
