use Rattle.gj_function_text.specs.FamilyLine.{gmic}
use Rattle.gj_function_text.specs.FamilyRead.{gmic_words}
use Rattle.gj_function_text.proofs.FamilyRead.{gmic_spelled, no_gmic_number, family_refused}
use Rattle.gj_function_text.proofs.family.gmic_of.Goals as goal

pub returns-in_default-clause-broken : goal.returns-in_default-clause-broken
returns-in_default-clause-broken c = no_gmic_number c.args.word.now c.in_default.ensures.none

pub returns-in-Ok-clause-found : goal.returns-in-Ok-clause-found
returns-in-Ok-clause-found c = (
  gmic c.in-Some.f,
  gmic_spelled c.args.word.now c.in-Some.f c.in-Some.ensures.found,
  ((c.in-Ok.ensures.ok, c.in-Ok.ensures.closed_form), c.in-Ok.ensures.within_bounds),
)

pub returns-in-Err-clause-broken : goal.returns-in-Err-clause-broken
returns-in-Err-clause-broken c =
    family_refused (gmic_words c.args.word.now) (gmic c.in-Some.f) c.in-Err.fault _
    (gmic_spelled c.args.word.now c.in-Some.f c.in-Some.ensures.found) c.in-Err.ensures.fault
    c.line_fault.ensures
