-- The lines of a function in their one spelling are read in either spelling.
use Rattle.std.proofs.Common.{◌≡◌, ℕ, pos, List, [], ◌∷◌, ◌++◌, length, flat_map, refl, sym, ap, subst, ◌∙◌, append_assoc, append-nil, arith}
use Rattle.std.proofs.lemmas.List.Concat.{flat_map-append}
use Rattle.gj_frac.specs.declared.Frac.{Frac}
use Rattle.gj_frac.specs.Fraction.{IsRatio}
use Rattle.gj_lex.specs.declared.spelling.Spelling.{Spelling}
use Rattle.gj_forms.specs.Parts.{line_part}
use Rattle.gj_forms.specs.LineForms.{words_of}
use Rattle.gj_forms.proofs.SpelledLines.{spells_its_thing, has_its_line, line_is_spelled}
use Rattle.gj_shape.specs.FunctionData.{FunctionData, IsWithinBounds}
use Rattle.gj_shape.specs.Given.{AreWithinBounds}
use Rattle.gj_shape.specs.Points.{all_fractions, fractions_of}
use Rattle.gj_shape.specs.declared.points.Point.{Point}
use Rattle.gj_shape.proofs.GivenPoints.{given_by_points, good_points, count_of_points}
use Rattle.gj_shape.proofs.LeastDenominator.{within_bounds_closed}
use Rattle.gj_function_lines.specs.FunctionGrammar.{order_rule, place_rule, point_rule, points_part, function_part}
use Rattle.gj_function_lines.specs.Reading.{IsPointLine}
use Rattle.gj_function_lines.specs.FunctionLines.{order_form, place_form, point_form, numbers_of, point_line, order_line, place_line, AreFunctionLines}
use Rattle.gj_function_lines.proofs.ClearLines.{good_order, good_place, good_point, told_point, not_three_same}

-- ---- a point

-- a text that begins with its line spells the point there
pub line_is_read : (s : Spelling) (p : Point) (text rest : List ℕ) → text ≡ point_line p ++ rest →
    IsPointLine s text text rest p
line_is_read s p text rest is =
    let n = numbers_of p in (
      words_of (point_form.fields n),
      has_its_line s (point_form.fields n) text rest (good_point n) (λ z. omega arith) is,
      (
        n,
        (not_three_same s p, spells_its_thing s point_form n (good_point n) tt),
        sym
            (told_point p),
      ),
    )

point_is_read : (s : Spelling) (points : List Point) (p : Point) (text rest : List ℕ) →
    text ≡ point_line p ++ rest →
    AreWithinBounds (all_fractions (points ++ p ∷ [])) →
    (line_part s (point_rule s points)).Reads text p rest
point_is_read s points p text rest is within =
    let (words, has, spelled) = line_is_read s p text rest is in
    (text, words, has, (p, spelled, (refl, within)))

-- ---- all points

within_first : (points : List Point) (p : Point) (more : List Point) →
    AreWithinBounds (all_fractions (points ++ p ∷ more)) →
    AreWithinBounds (all_fractions (points ++ p ∷ []))
within_first points p more within =
    within_bounds_closed (all_fractions (points ++ p ∷ [])) (all_fractions more)
    (subst AreWithinBounds
    (ap all_fractions (sym (append_assoc points (p ∷ []) more))
    ∙ flat_map-append fractions_of (points ++ p ∷ []) more) within)

points_are_read : (s : Spelling) (before points : List Point) (text rest : List ℕ) →
    text ≡ flat_map point_line points ++ rest →
    AreWithinBounds (all_fractions (before ++ points)) →
    (points_part s (length points) before).Reads text (before ++ points) rest
points_are_read s before [] text rest is within = (append-nil before, is)
points_are_read s before (p ∷ points) text rest is within =
    let more = flat_map point_line points ++ rest in
    let first = point_is_read s before p text more
    (is ∙ append_assoc (point_line p) (flat_map point_line points) rest)
    (within_first before p points within) in
    let joined = append_assoc before (p ∷ []) points in
    let others = points_are_read s (before ++ p ∷ []) points more rest refl
    (subst (λ ps. AreWithinBounds (all_fractions ps)) (sym joined) within) in (
      p,
      more,
      first,
      subst
          (λ ps. (points_part s (length points) (before ++ p ∷ [])).Reads more ps rest) joined
          others,
    )

-- ---- the head

order_is_read : (s : Spelling) (f : FunctionData) (text rest : List ℕ) → IsWithinBounds f →
    text ≡ order_line f.order ++ rest →
    (line_part s (order_rule s)).Reads text f.order rest
order_is_read s f text rest within is =
    let good = good_order f.order (let high = within.order_high in omega arith) in
    let (start, words, line, spelled) = line_is_spelled s order_form f.order text rest good tt
    (λ z. omega arith) is in
    (start, words, line, (f.order, spelled, (refl, (within.order_low, within.order_high))))

place_is_read : (s : Spelling) (f : FunctionData) (place : Frac) (text rest : List ℕ) →
    IsWithinBounds f →
    IsRatio place (pos f.place) (pos f.order) → text ≡ place_line place ++ rest →
    (line_part s (place_rule s f.order)).Reads text f.place rest
place_is_read s f place text rest within ratio is =
    let (start, words, line, spelled) =
    line_is_spelled s place_form place text rest (good_place place) tt (λ z. omega arith) is in
    (start, words, line, (place, spelled, ((within.place_low, within.place_high), ratio)))

-- ---- the function

pub canonical_lines_are_read : (s : Spelling) (f : FunctionData) (lines rest : List ℕ) →
    IsWithinBounds f →
    AreFunctionLines f lines → (function_part s).Reads (lines ++ rest) f rest
canonical_lines_are_read s f lines rest within are =
    let points = are.points in
    let last = flat_map point_line points ++ rest in
    let middle = place_line are.place ++ last in
    let split : lines ++ rest ≡ order_line f.order ++ middle =
    ap (λ t. t ++ rest) are.spelled ∙ append_assoc (order_line f.order ++ place_line are.place)
    (flat_map point_line points) rest
    ∙ append_assoc (order_line f.order) (place_line are.place) last in
    let count = count_of_points points f within are.points_are in
    let read = points_are_read s [] points last rest refl
    (good_points points f within are.points_are) in (
      f.order,
      middle,
      order_is_read s f (lines ++ rest) middle within split,
      (
        f.place,
        last,
        place_is_read s f are.place middle last within are.place_is refl,
        (
          points,
          subst (λ n. (points_part s n []).Reads last points rest) count read,
          given_by_points points f within are.points_are,
        ),
      ),
    )
