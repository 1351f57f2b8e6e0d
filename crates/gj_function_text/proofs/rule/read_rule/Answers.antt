use Rattle.std.proofs.Common.{◌∙◌, sym, subst, arith}
use Rattle.gj_forms.proofs.LineNumbers.{rest_at_length, rest_not_longer, no_fault_of, first_fault_of}
use Rattle.gj_function_text.specs.RuleText.{rule_text, IsRuleText}
use Rattle.gj_function_text.proofs.RuleTexts.{rule_text_is_exact, one_end}
use Rattle.gj_function_text.proofs.rule.read_rule.Goals as goal

pub overflow_sub-result : goal.overflow_sub-result
overflow_sub-result c = rest_not_longer rule_text rule_text_is_exact _ tt _ c.in-Ok.ensures.passed

pub returns-in-Ok-clause-found : goal.returns-in-Ok-clause-found
returns-in-Ok-clause-found c = (
  omega arith,
  subst (IsRuleText c.args.bytes.now)
      (sym (rest_at_length rule_text rule_text_is_exact _ tt _ c.in-Ok.ensures.passed))
      c.in-Ok.ensures.passed,
)

pub returns-in-Ok-clause-only : goal.returns-in-Ok-clause-only
returns-in-Ok-clause-only c = λ rest h.
    rest_at_length rule_text rule_text_is_exact _ tt _ c.in-Ok.ensures.passed
    ∙ one_end _ _ _ c.in-Ok.ensures.passed h

pub returns-in-Err-Refused-clause-only : goal.returns-in-Err-Refused-clause-only
returns-in-Err-Refused-clause-only c = λ rest h.
    no_fault_of rule_text rule_text_is_exact _ tt rest _ _ h
    (rw c.in-Err-Refused.field-0-is at c.in-Err-Refused.ensures.passed)

pub returns-in-Err-Refused-clause-refused : goal.returns-in-Err-Refused-clause-refused
returns-in-Err-Refused-clause-refused c =
    first_fault_of rule_text rule_text_is_exact _ _ _ _
    (rw c.in-Err-Refused.field-0-is at c.in-Err-Refused.ensures.passed) c.line_number.ensures
