use Rattle.std.proofs.Common.{inl}
use Rattle.gj_lex.specs.declared.spelling.Spelling.TheVariants.{Lenient}
use Rattle.gj_forms.proofs.PartLaws.{line_refused}
use Rattle.gj_function_text.specs.BreaksText.{break_rule}
use Rattle.gj_function_text.proofs.BreaksRead.{break_refused}
use Rattle.gj_function_text.proofs.breaks.break_at.Goals as goal

pub returns-in-Err-clause-fault : goal.returns-in-Err-clause-fault
returns-in-Err-clause-fault c =
    line_refused Lenient (break_rule c.args.breaks.now) _ _ _ _ _ _ c.in_ok-line.ensures.found
    (inl c.in-Err.ensures.broken) c.at.ensures

pub returns-in-Ok-push-clause-found : goal.returns-in-Ok-push-clause-found
returns-in-Ok-push-clause-found c = (
  _,
  _,
  c.in_ok-line.ensures.found,
  (c.in-Ok.point, c.in-Ok.ensures.found, c.in-Ok-push.ensures.ok),
)

pub returns-in-Err-push-clause-fault : goal.returns-in-Err-push-clause-fault
returns-in-Err-push-clause-fault c =
    rw c.refusal_of.ensures
    (break_refused _ _ _ _ c.args.breaks.now c.in-Ok.point _ c.in_ok-line.ensures.found
    c.in-Ok.ensures.found c.in-Err-push.ensures.fault)
