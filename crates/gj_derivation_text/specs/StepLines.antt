-- Lines of the steps of a derivation, each by its words and numbers (own).
use Rattle.std.specs.Prelude.{ℕ, pos, ◌<ℤ◌, List, [], ◌∷◌, codes}
use Rattle.gj_frac.specs.Fraction.{numerator}
use Rattle.gj_frac.specs.declared.Frac.{Frac}
use Rattle.gj_lex.specs.Name.{IsName}
use Rattle.gj_forms.specs.LineForms.{Field, LineForm}
use Rattle.gj_forms.specs.LineForms.Field.{word, fraction}
use Rattle.gj_line.specs.FieldForms.{FieldForm, name_word, no_form, then_form, named_form}
use Rattle.gj_derivation.specs.declared.step.StepRule.{StepRule}
use Rattle.gj_derivation.specs.declared.step.StepRule.TheVariants.{Linear, Gmic, Function}

-- ---- the first line of a step

abbrev pub rule_word : StepRule → List ℕ
rule_word Linear = codes "linear"
rule_word Gmic = codes "gmic"
rule_word Function = codes "function"

abbrev pub rule_kind : FieldForm StepRule
rule_kind = record {
  field = λ r. word (rule_word r);
  HasForm = λ r. Unit {0};
  HasWord =
      λ r. Unit {0};
}

-- `step NAME linear|gmic|function`
abbrev pub step_form : LineForm (List ℕ × (StepRule × Unit {0}))
step_form = named_form (codes "step") (then_form name_word (then_form rule_kind no_form))

-- ---- the lines behind it

-- a line with what it tells: a claim as it is spelled
pub data StepLine : Type 0 where
  by : List ℕ → Frac → StepLine
  upper : List ℕ → StepLine
  times : Frac → StepLine
  claim : List ℕ → StepLine
  term : List ℕ → Frac → StepLine

-- `by NAME MULTIPLIER`, `upper NAME`, `times FACTOR`, `claim RIGHT` or `term NAME VALUE`
abbrev pub line_fields : StepLine → List Field
line_fields (by name value) = word (codes "by") ∷ word name ∷ fraction value ∷ []
line_fields (upper name) = word (codes "upper") ∷ word name ∷ []
line_fields (times factor) = word (codes "times") ∷ fraction factor ∷ []
line_fields (claim right) = word (codes "claim") ∷ word right ∷ []
line_fields (term name value) = word (codes "term") ∷ word name ∷ fraction value ∷ []

-- a name is one
abbrev pub HasLineForm : StepLine → Type 0
HasLineForm (by name value) = IsName name
HasLineForm (upper name) = IsName name
HasLineForm (times factor) = Unit {0}
HasLineForm (claim right) = Unit {0}
HasLineForm (term name value) = IsName name

-- and a factor is above 0
abbrev pub HasStepLine : StepLine → Type 0
HasStepLine (by name value) = IsName name
HasStepLine (upper name) = IsName name
HasStepLine (times factor) = pos 0 <ℤ numerator factor
HasStepLine (claim right) = Unit {0}
HasStepLine (term name value) = IsName name

abbrev pub line_form : LineForm StepLine
line_form = record { fields = line_fields; HasForm = HasLineForm; HasLine = HasStepLine }
