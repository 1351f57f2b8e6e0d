-- The line of a breakpoint, `point X V` or `point X L V R`, in lenient spelling, and in its one
-- spelling (own).
use Rattle.std.specs.Prelude.{ℕ, List, ◌∷◌, codes}
use Rattle.gj_frac.specs.declared.Frac.{Frac}
use Rattle.gj_forms.specs.Parts.{LineRule}
use Rattle.gj_lex.specs.declared.spelling.Spelling.TheVariants.{Lenient}
use Rattle.gj_forms.specs.LineForms.{LineForm, form_of, line_of}
use Rattle.gj_forms.specs.LineForms.Field.{word, fraction}
use Rattle.gj_forms.specs.SpelledForms.{rule_in, turned_rule}
use Rattle.gj_shape.specs.Breaks.{point_at}
use Rattle.gj_shape.specs.declared.breaks.Break.{Break}
use Rattle.gj_shape.specs.declared.points.Point.{Point}
use Rattle.gj_function_lines.specs.FunctionLines.{PointNumbers, number_fields, numbers_of}
use Rattle.gj_function_lines.specs.FunctionGrammar.{point_of}

-- where the breakpoint is, and its numbers
abbrev pub break_form : LineForm (Frac × PointNumbers)
break_form = form_of (λ b. word (codes "point") ∷ fraction b.0 ∷ number_fields b.1)

-- a breakpoint by its place and its point
abbrev pub break_at : Frac → Point → Break
break_at x p = record { x = x; left = p.left; value = p.value; right = p.right }

-- the breakpoint that a line spells
abbrev pub spelled_break_rule : LineRule Break
spelled_break_rule = turned_rule (λ b. break_at b.0 (point_of b.1)) (rule_in Lenient break_form)

-- in its one spelling: canonical numbers, one space between words, and one fraction if the three
-- are equal
abbrev pub break_line : Break → List ℕ
break_line b = line_of break_form (b.x, numbers_of (point_at b))
