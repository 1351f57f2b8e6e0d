-- The lines of a function, each defined once by its fields, and printed in their one spelling
-- (own).
use Rattle.std.specs.Prelude.{ℕ, pos, ◌≡◌, Bool, ◌&&◌, if◌then◌else◌, List, [], ◌∷◌, ◌++◌, codes, flat_map}
use Rattle.std.specs.Ordering.{int_eq}
use Rattle.gj_frac.specs.declared.Frac.{Frac}
use Rattle.gj_frac.specs.Fraction.{IsRatio, numerator, denominator}
use Rattle.gj_lex.specs.NumberText.{fraction_text}
use Rattle.gj_forms.specs.LineForms.{Field, LineForm, form_of, line_of}
use Rattle.gj_forms.specs.LineForms.Field.{word, fraction, count}
use Rattle.gj_shape.specs.FunctionData.{FunctionData}
use Rattle.gj_shape.specs.Points.{ArePointsOf}
use Rattle.gj_shape.specs.declared.points.Point.{Point}

-- a line: its bytes and a line feed
abbrev pub line : List ℕ → List ℕ
line bytes = bytes ++ 10 ∷ []

-- a line of a word and a fraction
abbrev pub fraction_line : List ℕ → Frac → List ℕ
fraction_line name x = line (name ++ fraction_text x)

-- `order Q`
abbrev pub order_form : LineForm ℕ
order_form = form_of (λ order. word (codes "order") ∷ count order ∷ [])

abbrev pub order_line : ℕ → List ℕ
order_line order = line_of order_form order

-- `f F`
abbrev pub place_form : LineForm Frac
place_form = form_of (λ place. word (codes "f") ∷ fraction place ∷ [])

abbrev pub place_line : Frac → List ℕ
place_line place = line_of place_form place

-- the numbers of a point: one for its value and both limits; or the limit from the left, the value
-- and the limit from the right
pub data PointNumbers : Type 0 where
  one : Frac → PointNumbers
  three : Point → PointNumbers

abbrev pub number_fields : PointNumbers → List Field
number_fields (one x) = fraction x ∷ []
number_fields (three p) = fraction p.left ∷ fraction p.value ∷ fraction p.right ∷ []

-- `point V` or `point L V R`
abbrev pub point_form : LineForm PointNumbers
point_form = form_of (λ numbers. word (codes "point") ∷ number_fields numbers)

-- whether two fractions in lowest terms are one
abbrev pub is_same : Frac → Frac → Bool
is_same x y = int_eq (numerator x) (numerator y) && int_eq (denominator x) (denominator y)

-- the limits of a point are its value
abbrev pub has_no_jump : Point → Bool
has_no_jump p = is_same p.left p.value && is_same p.value p.right

-- the numbers that are printed of a point: one if the three are equal
unfoldable pub numbers_of : Point → PointNumbers
numbers_of p = if has_no_jump p then one p.value else three p

abbrev pub point_line : Point → List ℕ
point_line p = line_of point_form (numbers_of p)

-- the line `order Q`, the line `f F`, and a line for each point
abbrev pub lines_of : ℕ → Frac → List Point → List ℕ
lines_of order place points = order_line order ++ place_line place ++ flat_map point_line points

-- the text is the lines of the function f: its order, its place as a fraction, and its points
pub record AreFunctionLines (f : FunctionData) (text : List ℕ) : Type 0 where
  pub place : Frac
  pub points : List Point
  pub place_is : IsRatio place (pos f.place) (pos f.order)
  pub points_are : ArePointsOf f points
  pub spelled : text ≡ lines_of f.order place points
