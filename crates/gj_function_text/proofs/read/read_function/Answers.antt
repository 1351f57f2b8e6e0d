use Rattle.std.proofs.Common.{◌∙◌, sym, subst, arith}
use Rattle.gj_forms.proofs.LineNumbers.{rest_at_length, rest_not_longer, no_fault_of, first_fault_of}
use Rattle.gj_function_text.specs.FunctionText.{IsFunctionText, function_text}
use Rattle.gj_function_text.proofs.OneText.{function_text_is_exact, one_function_text}
use Rattle.gj_function_text.proofs.read.read_function.Goals as goal

pub overflow_sub-result : goal.overflow_sub-result
overflow_sub-result c =
    rest_not_longer function_text function_text_is_exact _ _ _ c.in-Ok.ensures

pub returns-in-Ok-clause-found : goal.returns-in-Ok-clause-found
returns-in-Ok-clause-found c = (
  omega arith,
  subst (IsFunctionText c.args.bytes.now c.in-Ok.shape)
      (sym (rest_at_length function_text function_text_is_exact _ _ _ c.in-Ok.ensures))
      c.in-Ok.ensures,
)

pub returns-in-Ok-clause-only : goal.returns-in-Ok-clause-only
returns-in-Ok-clause-only c = λ f rest h.
    let same = one_function_text _ _ _ _ _ c.in-Ok.ensures h in (
      same.0,
      rest_at_length function_text function_text_is_exact _ _ _ c.in-Ok.ensures
          ∙ same.1,
    )

pub returns-in-Err-Refused-clause-only : goal.returns-in-Err-Refused-clause-only
returns-in-Err-Refused-clause-only c = λ f rest h.
    no_fault_of function_text function_text_is_exact _ f rest _ _ h
    (rw c.in-Err-Refused.field-0-is at c.in-Err-Refused.ensures)

pub returns-in-Err-Refused-clause-refused : goal.returns-in-Err-Refused-clause-refused
returns-in-Err-Refused-clause-refused c =
    first_fault_of function_text function_text_is_exact _ _ _ _
    (rw c.in-Err-Refused.field-0-is at c.in-Err-Refused.ensures) c.line_number.ensures
