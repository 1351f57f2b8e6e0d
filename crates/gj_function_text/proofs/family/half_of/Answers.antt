use Rattle.gj_function_text.specs.FamilyLine.{half}
use Rattle.gj_function_text.specs.FamilyRead.{half_words}
use Rattle.gj_function_text.proofs.FamilyRead.{half_spelled, no_half_number, family_refused}
use Rattle.gj_function_text.proofs.family.half_of.Goals as goal

pub returns-in_default-clause-broken : goal.returns-in_default-clause-broken
returns-in_default-clause-broken c = no_half_number c.args.word.now c.in_default.ensures.none

pub returns-in-Ok-clause-found : goal.returns-in-Ok-clause-found
returns-in-Ok-clause-found c = (
  half c.in-Some.f,
  half_spelled c.args.word.now c.in-Some.f c.in-Some.ensures.found,
  ((c.in-Ok.ensures.ok, c.in-Ok.ensures.closed_form), c.in-Ok.ensures.within_bounds),
)

pub returns-in-Err-clause-broken : goal.returns-in-Err-clause-broken
returns-in-Err-clause-broken c =
    family_refused (half_words c.args.word.now) (half c.in-Some.f) c.in-Err.fault _
    (half_spelled c.args.word.now c.in-Some.f c.in-Some.ensures.found) c.in-Err.ensures.fault
    c.line_fault.ensures
