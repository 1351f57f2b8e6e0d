use Rattle.gj_forms.proofs.WhereLaws.{begun, begins_nothing}
use Rattle.gj_forms.proofs.begins.line_with_word.Goals as goal

pub returns-in_err-behind_name-in-Ok-clause-none : goal.returns-in_err-behind_name-in-Ok-clause-none
returns-in_err-behind_name-in-Ok-clause-none c =
    rw c.from_residual.ensures
    (λ is. let more = begun _ _ _ _ _ _ c.in-Ok.ensures.found is in
    c.in_err-behind_name-in-Ok.ensures.none more.0 more.1)

pub returns-in-Err-clause-none : goal.returns-in-Err-clause-none
returns-in-Err-clause-none c = λ is. begins_nothing _ _ _ _ c.in-Err.ensures.fault is
