-- Function text: a function by its points, as one of a family or by its breakpoints, in lenient
-- spelling, and its one canonical text (own).
use Rattle.std.specs.Prelude.{ℕ, ◌≡◌, List, [], ◌∷◌, ◌++◌, codes, flat_map}
use Rattle.gj_frac.specs.declared.Frac.{Frac}
use Rattle.gj_forms.specs.Parts.{Part, words_rule, line_part, framed_part, then_part, where_part, end_part, BeginsWithLine, BeginsWithWord}
use Rattle.gj_lex.specs.declared.spelling.Spelling.TheVariants.{Lenient}
use Rattle.gj_shape.specs.FunctionData.{FunctionData}
use Rattle.gj_shape.specs.declared.breaks.Break.{Break}
use Rattle.gj_function_lines.specs.BreakLines.{break_line}
use Rattle.gj_function_lines.specs.FunctionGrammar.{function_part}
use Rattle.gj_function_lines.specs.FunctionLines.{line, place_line, AreFunctionLines}
use Rattle.gj_function_text.specs.FamilyLine.{family_rule}
use Rattle.gj_function_text.specs.BreaksText.{end_words, breaks_part}

-- the words of the first line: of a text by points or by a family, and of one by breakpoints
abbrev pub title_words : List (List ℕ)
title_words = codes "gj-function" ∷ codes "1" ∷ []

abbrev pub breaks_title_words : List (List ℕ)
breaks_title_words = codes "gj-function" ∷ codes "2" ∷ []

-- a line that names a function of a family
abbrev pub family_part : Part FunctionData
family_part = line_part Lenient family_rule

-- what tells the function: such a line if the next one begins with `family`, and else its points
abbrev pub body_part : Part FunctionData
body_part = where_part (BeginsWithWord Lenient (codes "family")) family_part (function_part Lenient)

-- text 1: the line `gj-function 1`, what tells the function, and the line `end`
abbrev pub points_text : Part FunctionData
points_text = framed_part Lenient title_words body_part end_words

-- text 2: the line `gj-function 2`, and the lines of the breakpoints to the line `end`
abbrev pub breaks_text : Part FunctionData
breaks_text = then_part (line_part Lenient (words_rule breaks_title_words)) (λ t. breaks_part)

-- a function text: the one or the other, told apart by the first line
abbrev pub function_text : Part FunctionData
function_text = where_part (BeginsWithLine Lenient breaks_title_words) breaks_text points_text

-- a whole one: after it nothing follows
abbrev pub whole_function_text : Part FunctionData
whole_function_text = then_part function_text (λ f. end_part Lenient f)

-- the text begins with a function text of f, and the rest follows the line `end`
abbrev pub IsFunctionText : List ℕ → FunctionData → List ℕ → Type 0
IsFunctionText text f rest = function_text.Reads text f rest

-- the text is a function text of f, and only lines that are skipped follow
abbrev pub IsWholeFunctionText : List ℕ → FunctionData → Type 0
IsWholeFunctionText text f = (rest : List ℕ) × whole_function_text.Reads text f rest

-- the text is the canonical text of f: one space between words, each line ended by LF, canonical
-- numbers, and one fraction if the three are equal
pub record IsCanonicalText (text : List ℕ) (f : FunctionData) : Type 0 where
  pub lines : List ℕ
  pub are_lines : AreFunctionLines f lines
  pub spelled : text ≡ line (codes "gj-function 1") ++ lines ++ line (codes "end")

-- the canonical text by breakpoints: that of f and of the breakpoints, each line ended by LF, with
-- one space between words, canonical numbers, and one fraction if the three are equal
abbrev pub canonical_breaks_text : Frac → List Break → List ℕ
canonical_breaks_text place breaks =
    line (codes "gj-function 2") ++ place_line place ++ flat_map break_line breaks ++ line
    (codes "end")

-- the breakpoint where the first lies, at which the limits are the value, the second
abbrev pub even_break : Frac × Frac → Break
even_break pair = record { x = pair.0; left = pair.1; value = pair.1; right = pair.1 }
