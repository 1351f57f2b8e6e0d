-- Function texts by the words of their lines (own).
use Rattle.std.specs.Prelude.{ℕ, pos, ◌≡◌, ◌≢◌, List, [], ◌∷◌, ◌++◌}
use Rattle.std.specs.List.{AllZip}
use Rattle.gj_frac.specs.declared.Frac.{Frac}
use Rattle.gj_frac.specs.Fraction.{IsRatio}
use Rattle.gj_forms.specs.TextLines.{HasLines}
use Rattle.gj_lex.specs.declared.spelling.Spelling.TheVariants.{Lenient}
use Rattle.gj_shape.specs.FunctionData.{FunctionData, IsWithinBounds}
use Rattle.gj_shape.specs.Points.{ArePointsOf}
use Rattle.gj_shape.specs.Breaks.{BreakList, AreBreaks, IsOfBreaks}
use Rattle.gj_shape.specs.declared.breaks.Break.{Break}
use Rattle.gj_shape.specs.declared.points.Point.{Point}
use Rattle.gj_forms.specs.SpelledForms.{Spell}
use Rattle.gj_function_lines.specs.FunctionLines.{order_form, place_form, PointNumbers, point_form}
use Rattle.gj_function_lines.specs.FunctionGrammar.{point_of}
use Rattle.gj_function_lines.specs.BreakLines.{break_form, break_at}
use Rattle.gj_function_text.specs.FamilyLine.{Family, family_form, IsOfFamily}
use Rattle.gj_function_text.specs.BreaksText.{end_words}
use Rattle.gj_function_text.specs.FunctionText.{title_words, breaks_title_words}

-- ---- functions by their points

-- the words spell the point
abbrev pub SpellPoint : List (List ℕ) → Point → Type 0
SpellPoint words p = (n : PointNumbers) × Spell Lenient point_form words n × (p ≡ point_of n)

-- the text has the lines `gj-function 1`, `order Q`, `f F`, a line `point V` or `point L V R` for
-- each point of f, a function within the bounds, and `end`, and the rest follows
pub record HasLinesOfFunction (text : List ℕ) (f : FunctionData) (rest : List ℕ) : Type 0 where
  pub within : IsWithinBounds f
  pub order : List (List ℕ)
  pub place : List (List ℕ)
  pub point_lines : List (List (List ℕ))
  pub fraction : Frac
  pub points : List Point
  pub order_spelled : Spell Lenient order_form order f.order
  pub place_spelled : Spell Lenient place_form place fraction
  pub place_is : IsRatio fraction (pos f.place) (pos f.order)
  pub points_spelled : AllZip SpellPoint point_lines points
  pub points_are : ArePointsOf f points
  pub has_lines : HasLines Lenient text
      (title_words ∷ order ∷ place ∷ point_lines ++ end_words ∷ []) rest

-- ---- functions of families

-- the text has the lines `gj-function 1`, one that names the function f of a family, and `end`, and
-- the rest follows
pub record HasLinesOfFamily (text : List ℕ) (f : FunctionData) (rest : List ℕ) : Type 0 where
  pub words : List (List ℕ)
  pub family : Family
  pub spelled : Spell Lenient family_form words family
  pub is_of : IsOfFamily family f
  pub within : IsWithinBounds f
  pub has_lines : HasLines Lenient text (title_words ∷ words ∷ end_words ∷ []) rest

-- ---- functions by their breakpoints

-- the words spell the breakpoint
abbrev pub SpellBreak : List (List ℕ) → Break → Type 0
SpellBreak words b = (t : Frac × PointNumbers) × Spell Lenient break_form words t
    × (b ≡ break_at t.0 (point_of t.1))

-- the text has the lines `gj-function 2`, `f F` with F between 0 and 1, a line `point X V` or
-- `point X L V R` for each of one or more breakpoints, and `end`, and the rest follows; f is the
-- function of the breakpoints, of order the least common multiple of all denominators
pub record HasLinesOfBreaks (text : List ℕ) (f : FunctionData) (rest : List ℕ) : Type 0 where
  pub place : List (List ℕ)
  pub points : List (List (List ℕ))
  pub list : BreakList
  pub are_breaks : AreBreaks list
  pub some : list.breaks ≢ []
  pub place_spelled : Spell Lenient place_form place list.place
  pub points_spelled : AllZip SpellBreak points list.breaks
  pub function_is : IsOfBreaks list f
  pub has_lines : HasLines Lenient text (breaks_title_words ∷ place ∷ points ++ end_words ∷ []) rest
