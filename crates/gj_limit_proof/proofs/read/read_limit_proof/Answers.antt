use Rattle.gj_forms.proofs.LineNumbers as numbers
use Rattle.gj_limit_proof.specs.LimitGrammar.{limit_proof_text}
use Rattle.gj_limit_proof.proofs.LimitReadTexts.{limit_text_is_exact, text_is_read, read_is_text}
use Rattle.gj_limit_proof.proofs.read.read_limit_proof.Goals as goal

pub returns-in-Ok-clause-found : goal.returns-in-Ok-clause-found
returns-in-Ok-clause-found c = read_is_text _ _ c.in-Ok.ensures.found

pub returns-in-Ok-clause-only : goal.returns-in-Ok-clause-only
returns-in-Ok-clause-only c = λ d b text.
    (limit_text_is_exact.one_thing _ _ _ _ _ c.in-Ok.ensures.found (text_is_read d _ b text)).0

pub returns-in-Err-Refused-clause-only : goal.returns-in-Err-Refused-clause-only
returns-in-Err-Refused-clause-only c = λ d b text.
    let f = rw c.in-Err-Refused.field-0-is at c.in-Err-Refused.ensures.fault in
    limit_text_is_exact.not_both _ _ _ _ _ (text_is_read d _ b text) f.2

pub returns-in-Err-Refused-clause-refused : goal.returns-in-Err-Refused-clause-refused
returns-in-Err-Refused-clause-refused c =
    let f = rw c.in-Err-Refused.field-0-is at c.in-Err-Refused.ensures.fault in
    numbers.first_fault_of limit_proof_text limit_text_is_exact _ _ _ _ f c.line_number.ensures
