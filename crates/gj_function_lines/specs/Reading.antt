-- What the readers of the parts of a point line find (own).
use Rattle.std.specs.Prelude.{ℕ, ◌≡◌, ◌⊎◌, List, [], ◌∷◌, length}
use Rattle.gj_lex.specs.declared.spelling.Spelling.{Spelling}
use Rattle.gj_lex.specs.declared.reason.Reason.TheVariants as reason
use Rattle.gj_forms.specs.declared.fault.PartFault.{PartFault}
use Rattle.gj_forms.specs.declared.fault.PartFault.TheVariants as part
use Rattle.gj_forms.specs.Parts.{LineRule}
use Rattle.gj_forms.specs.TextLines.{HasLine}
use Rattle.gj_forms.specs.LineForms.{form_of}
use Rattle.gj_forms.specs.SpelledForms.{rule_in, turned_rule}
use Rattle.gj_shape.specs.Points.{even_point}
use Rattle.gj_shape.specs.declared.points.Point.{Point}
use Rattle.gj_shape.specs.declared.points.PointFault.{PointFault}
use Rattle.gj_shape.specs.declared.points.PointFault.TheVariants.{Large, Fine, Memory}
use Rattle.gj_function_lines.specs.FunctionLines.{number_fields}
use Rattle.gj_function_lines.specs.FunctionGrammar.{point_of, spelled_point_rule}
use Rattle.gj_function_lines.specs.declared.printed.PrintedPoint.{PrintedPoint}
use Rattle.gj_function_lines.specs.declared.printed.PrintedPoint.TheVariants.{Value, Jump}
use Rattle.gj_function_lines.specs.declared.points.PointWords.{PointWords}
use Rattle.gj_function_lines.specs.declared.points.PointWords.TheVariants.{One, Three}

abbrev pub words_of_point : PointWords → List (List ℕ)
words_of_point (One word) = word.now ∷ []
words_of_point (Three first second third) = first.now ∷ second.now ∷ third.now ∷ []

-- there are one or three of them
abbrev pub IsOneOrThree : List (List ℕ) → Type 0
IsOneOrThree words = (length words ≡ 1) ⊎ (length words ≡ 3)

-- the point that words spell, without the word `point`
abbrev pub numbers_rule : Spelling → LineRule Point
numbers_rule s = turned_rule point_of (rule_in s (form_of number_fields))

-- the point whose printed line was read
abbrev pub point_of_printed : PrintedPoint → Point
point_of_printed (Value x) = even_point x
point_of_printed (Jump p) = p

-- the next line of the text begins at `start` and spells the point, and the rest follows it
abbrev pub IsPointLine : Spelling → List ℕ → List ℕ → List ℕ → Point → Type 0
IsPointLine s text start rest p = (words : List (List ℕ)) × HasLine s text start words rest
    × (spelled_point_rule s).Spells words p

-- the refusal of a line, with so many bytes left, whose point cannot follow
abbrev pub refusal_of : PointFault → ℕ → PartFault
refusal_of Large left = part.Refused left reason.Large
refusal_of Fine left = part.Refused left reason.Fine
refusal_of (Memory e) left = part.Memory e
