-- The words of the rules of steps may stand in lines, and each is that of one rule.
use Rattle.std.proofs.Common.{◌≡◌, codes, refl}
use Rattle.gj_lex.proofs.WordBytes.{IsPlain}
use Rattle.gj_forms.proofs.PlainWords.{known, apart}
use Rattle.gj_line.specs.FieldForms.{IsClearField}
use Rattle.gj_line.specs.FieldLaws.{same_word}
use Rattle.gj_derivation.specs.declared.step.StepRule.{StepRule}
use Rattle.gj_derivation.specs.declared.step.StepRule.TheVariants.{Linear, Gmic, Function}
use Rattle.gj_derivation_text.specs.StepLines.{rule_word, rule_kind}

pub rule_is_plain : (r : StepRule) → IsPlain (rule_word r)
rule_is_plain Linear = known (codes "linear") refl
rule_is_plain Gmic = known (codes "gmic") refl
rule_is_plain Function = known (codes "function") refl

one_rule : (r s : StepRule) → rule_word r ≡ rule_word s → r ≡ s
one_rule Linear Linear e = refl
one_rule Gmic Gmic e = refl
one_rule Function Function e = refl
one_rule r s e = absurd (apart (rule_word r) (rule_word s) refl e)

pub rule_is_clear : IsClearField rule_kind
rule_is_clear = record {
  of_form = λ r h. h;
  alike = λ r s w h. tt;
  tell = λ r s e. one_rule r s (same_word (rule_word r) (rule_word s) e);
}
