-- The lines of a function in either spelling, as a part of a text (own).
use Rattle.std.specs.Prelude.{ℕ, zero, suc, pos, ◌≡◌, ◌⊎◌, List, [], ◌∷◌, ◌++◌, codes}
use Rattle.gj_frac.specs.Fraction.{IsRatio}
use Rattle.gj_lex.specs.declared.spelling.Spelling.{Spelling}
use Rattle.gj_lex.specs.declared.spelling.Spelling.TheVariants.{Strict}
use Rattle.gj_lex.specs.declared.reason.Reason.TheVariants as reason
use Rattle.gj_forms.specs.Parts.{LineRule, Part, line_part, empty_part, then_part, made_part}
use Rattle.gj_forms.specs.SpelledForms.{rule_in, made_rule, turned_rule, barred_rule}
use Rattle.gj_shape.specs.FunctionData.{FunctionData}
use Rattle.gj_shape.specs.Given.{IsOrder, IsPlace, AreWithinBounds, IsGivenBy}
use Rattle.gj_shape.specs.Points.{lefts, values, rights, all_fractions, IsPointFault}
use Rattle.gj_shape.specs.declared.points.Point.{Point}
use Rattle.gj_shape.specs.declared.points.PointFault.TheVariants.{Large, Fine}
use Rattle.gj_function_lines.specs.FunctionLines.{order_form, place_form, PointNumbers, point_form}
use Rattle.gj_function_lines.specs.FunctionLines.PointNumbers.{one, three}
use Rattle.gj_function_lines.specs.PlaceFraction.{IsPlaceFraction}

-- `order Q`, with Q from 2 to 1,000
abbrev pub order_rule : Spelling → LineRule ℕ
order_rule s =
    made_rule (λ n q. (q ≡ n) × IsOrder n) (λ n e. (e ≡ reason.Order) × (IsOrder n → ⊥))
    (rule_in s order_form)

-- `f F`, with F equal to k/q for a k from 1 to q - 1
abbrev pub place_rule : Spelling → ℕ → LineRule ℕ
place_rule s q =
    made_rule (λ x k. IsPlace q k × IsRatio x (pos k) (pos q))
    (λ x e. (e ≡ reason.Place) × (IsPlaceFraction q x → ⊥))
    (rule_in s place_form)

-- ---- `point V` or `point L V R`

abbrev pub point_of : PointNumbers → Point
point_of (one x) = record { left = x; value = x; right = x }
point_of (three p) = p

-- in strict spelling no three words that are all the same
abbrev pub AreThreeSame : Spelling → List (List ℕ) → Type 0
AreThreeSame s words = (s ≡ Strict) × (w : List ℕ) × (words ≡ codes "point" ∷ w ∷ w ∷ w ∷ [])

-- the point that a line spells
abbrev pub spelled_point_rule : Spelling → LineRule Point
spelled_point_rule s = turned_rule point_of (barred_rule (AreThreeSame s) (rule_in s point_form))

-- it can follow the points before it
abbrev pub point_rule : Spelling → List Point → LineRule Point
point_rule s points =
    made_rule (λ p q. (q ≡ p) × AreWithinBounds (all_fractions (points ++ p ∷ [])))
    (λ p e. ((e ≡ reason.Large) × IsPointFault points p Large)
    ⊎ ((e ≡ reason.Fine) × IsPointFault points p Fine))
    (spelled_point_rule s)

-- so many points behind these; with them they are all the points
abbrev pub points_part : Spelling → ℕ → List Point → Part (List Point)
points_part s zero points = empty_part points
points_part s (suc n) points =
    then_part (line_part s (point_rule s points)) (λ p. points_part s n (points ++ p ∷ []))

-- ---- the lines of a function

abbrev pub function_part : Spelling → Part FunctionData
function_part s =
    then_part (line_part s (order_rule s)) (λ q.
    then_part (line_part s (place_rule s q)) (λ k.
    made_part (λ points f. IsGivenBy q k (lefts points) (values points) (rights points) f)
    (points_part s q [])))
