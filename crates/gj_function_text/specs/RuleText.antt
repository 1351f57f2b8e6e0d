-- Rule text: a cut rule that is not told as a function, in lenient spelling (own).
use Rattle.std.specs.Prelude.{ℕ, List, [], ◌∷◌, codes}
use Rattle.gj_forms.specs.Parts.{Part, words_rule, line_part, framed_part, BeginsWithWord, IsFirstFaultIn}
use Rattle.gj_lex.specs.declared.reason.Reason.{Reason}
use Rattle.gj_lex.specs.declared.spelling.Spelling.TheVariants.{Lenient}
use Rattle.gj_function_text.specs.BreaksText.{end_words}

-- the words of the first line, and of the line that names the rule: the mixed-integer cut for any f
abbrev pub rule_title_words : List (List ℕ)
rule_title_words = codes "gj-rule" ∷ codes "1" ∷ []

abbrev pub rule_name_words : List (List ℕ)
rule_name_words = codes "gmic" ∷ []

-- a rule text: the lines `gj-rule 1`, `gmic` and `end`
abbrev pub rule_text : Part (Unit {0})
rule_text = framed_part Lenient rule_title_words (line_part Lenient (words_rule rule_name_words))
    end_words

-- the text begins with a rule text, and the rest follows the line `end`
abbrev pub IsRuleText : List ℕ → List ℕ → Type 0
IsRuleText text rest = rule_text.Reads text tt rest

-- the n-th line of the text is the first at fault, for this reason
abbrev pub IsFirstFaultOfRule : List ℕ → ℕ → Reason → Type 0
IsFirstFaultOfRule text n e = IsFirstFaultIn rule_text text n e

-- the first line that is not skipped begins with the word `gj-rule`
abbrev pub BeginsAsRule : List ℕ → Type 0
BeginsAsRule text = BeginsWithWord Lenient (codes "gj-rule") text
