use Rattle.gj_forms.proofs.LineNumbers.{no_fault_of, first_fault_of}
use Rattle.gj_function_text.specs.FunctionText.{whole_function_text}
use Rattle.gj_function_text.proofs.OneText.{whole_function_text_is_exact, one_whole_function}
use Rattle.gj_function_text.proofs.read.read_whole_function.Goals as goal

pub returns-in-Ok-clause-only : goal.returns-in-Ok-clause-only
returns-in-Ok-clause-only c = λ f h. one_whole_function _ _ _ c.in-Ok.ensures.found h

pub returns-in-Err-Refused-clause-only : goal.returns-in-Err-Refused-clause-only
returns-in-Err-Refused-clause-only c = λ f h.
    no_fault_of whole_function_text whole_function_text_is_exact _ f h.0 _ _ h.1
    (rw c.in-Err-Refused.field-0-is at c.in-Err-Refused.ensures.fault)

pub returns-in-Err-Refused-clause-refused : goal.returns-in-Err-Refused-clause-refused
returns-in-Err-Refused-clause-refused c =
    first_fault_of whole_function_text whole_function_text_is_exact _ _ _ _
    (rw c.in-Err-Refused.field-0-is at c.in-Err-Refused.ensures.fault) c.line_number.ensures
