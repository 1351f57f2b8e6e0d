-- The words of a line spell one breakpoint, or break one rule on its form and its numbers first.
use Rattle.gj_forms.specs.Parts.{IsExactRule}
use Rattle.gj_lex.specs.declared.spelling.Spelling.TheVariants.{Lenient}
use Rattle.gj_forms.specs.SpelledForms.{rule_in}
use Rattle.gj_forms.proofs.SpelledLaws.{rule_in_is_exact}
use Rattle.gj_forms.proofs.SpelledLines.{turned_rule_is_exact}
use Rattle.gj_function_lines.specs.FunctionGrammar.{point_of}
use Rattle.gj_function_lines.specs.BreakLines.{break_form, break_at, spelled_break_rule}
use Rattle.gj_function_lines.proofs.ClearLines.{break_is_clear}

pub spelled_break_is_exact : IsExactRule spelled_break_rule.Spells spelled_break_rule.Breaks
spelled_break_is_exact =
    turned_rule_is_exact (λ b. break_at b.0 (point_of b.1)) (rule_in Lenient break_form)
    (rule_in_is_exact Lenient break_form break_is_clear)
