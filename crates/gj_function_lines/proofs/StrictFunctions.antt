-- What is read in strict spelling is the lines of a function in their one spelling, and these are
-- short.
use Rattle.std.proofs.Common.{◌≡◌, ℕ, zero, suc, ◌*◌, ◌≤◌, pos, List, [], ◌∷◌, ◌++◌, length, flat_map, decimal, sym, ap, subst, ◌∙◌, append_assoc, append-nil, length-append, arith}
use Rattle.gj_frac.specs.declared.Frac.{Frac}
use Rattle.gj_frac.specs.Fraction.{IsRatio}
use Rattle.gj_lex.specs.declared.spelling.Spelling.TheVariants.{Strict}
use Rattle.gj_lex.specs.NumberText.{fraction_text}
use Rattle.gj_forms.specs.Parts.{line_part}
use Rattle.gj_lex.proofs.SpelledWords.{fraction_is_short, count_is_short}
use Rattle.gj_forms.specs.LineForms.{line_of}
use Rattle.gj_forms.proofs.SpelledLines.{strict_bytes}
use Rattle.gj_shape.specs.FunctionData.{FunctionData, IsWithinBounds}
use Rattle.gj_shape.specs.declared.points.Point.{Point}
use Rattle.gj_shape.proofs.GivenPoints.{points_given, count_of_points}
use Rattle.gj_function_lines.specs.FunctionGrammar.{order_rule, place_rule, point_rule, points_part, function_part}
use Rattle.gj_function_lines.specs.FunctionLines.{order_form, place_form, PointNumbers, point_form, numbers_of, point_line, order_line, place_line, lines_of, AreFunctionLines}
use Rattle.gj_function_lines.specs.FunctionLines.PointNumbers.{one, three}
use Rattle.gj_function_lines.proofs.ClearLines.{good_order, good_place, good_point, strict_numbers_are}

-- ---- the head

order_is_line : (text : List ℕ) (q : ℕ) (rest : List ℕ) →
    (line_part Strict (order_rule Strict)).Reads text q rest →
    text ≡ order_line q ++ rest
order_is_line text q rest (start, words, (at, line), (n, spelled, (q_is, order))) =
    strict_bytes order_form text words n rest (good_order n order.1) line.spelled spelled
    ∙ ap (λ m. order_line m ++ rest) (sym q_is)

place_is_line : (text : List ℕ) (q k : ℕ) (rest : List ℕ) →
    (line_part Strict (place_rule Strict q)).Reads text k rest →
    (x : Frac) × IsRatio x (pos k) (pos q) × (text ≡ place_line x ++ rest)
place_is_line text q k rest (start, words, (at, line), (x, spelled, (place, ratio))) =
    (x, ratio, strict_bytes place_form text words x rest (good_place x) line.spelled spelled)

-- ---- the points

point_is_line : (points : List Point) (text : List ℕ) (p : Point) (rest : List ℕ) →
    (line_part Strict (point_rule Strict points)).Reads text p rest → text ≡ point_line p ++ rest
point_is_line points text p rest
    (start, words, (at, line), (q, (n, (not, spelled), q_is), (p_is, within))) =
    strict_bytes point_form text words n rest (good_point n) line.spelled spelled
    ∙ ap (λ m. line_of point_form m ++ rest) (sym (strict_numbers_are words n not spelled)
    ∙ ap numbers_of (sym q_is ∙ sym p_is))

points_are_lines : (n : ℕ) (before all : List Point) (text rest : List ℕ) →
    (points_part Strict n before).Reads text all rest →
    (points : List Point) × (all ≡ before ++ points) × (text ≡ flat_map point_line points ++ rest)
points_are_lines zero before all text rest (is, ends) = ([], is ∙ sym (append-nil before), ends)
points_are_lines (suc n) before all text rest (p, next, line, more) =
    let (points, all_is, next_is) = points_are_lines n (before ++ p ∷ []) all next rest more in (
      p ∷ points,
      all_is ∙ append_assoc before (p ∷ []) points,
      point_is_line before text p next line ∙ ap (λ t. point_line p ++ t) next_is
          ∙ sym (append_assoc (point_line p) (flat_map point_line points) rest),
    )

-- ---- the function

pub strict_lines_are_canonical : (f : FunctionData) (text rest : List ℕ) →
    (function_part Strict).Reads text f rest →
    (lines : List ℕ) × AreFunctionLines f lines × (text ≡ lines ++ rest)
strict_lines_are_canonical f text rest
    (q, next, order, (k, more, place, (all, points_read, given))) =
    let (x, ratio, next_is) = place_is_line next q k more place in
    let (points, all_is, more_is) = points_are_lines q [] all more rest points_read in
    let lines = lines_of q x all in
    let joined : text ≡ lines ++ rest =
    order_is_line text q next order ∙ ap (λ t. order_line q ++ t) next_is
    ∙ ap (λ t. order_line q ++ (place_line x ++ t))
    (more_is ∙ ap (λ ps. flat_map point_line ps ++ rest) (sym all_is))
    ∙ sym (append_assoc (order_line q) (place_line x) (flat_map point_line all ++ rest))
    ∙ sym (append_assoc (order_line q ++ place_line x) (flat_map point_line all) rest) in
    let ratio_at : IsRatio x (pos f.place) (pos f.order) =
    subst (λ n. IsRatio x (pos f.place) (pos n)) (sym given.order)
    (subst (λ n. IsRatio x (pos n) (pos q)) (sym given.place) ratio) in (
      lines,
      record {
        place = x;
        points = all;
        place_is = ratio_at;
        points_are = points_given q k all f given;
        spelled = ap (λ n. lines_of n x all) (sym given.order);
      },
      joined,
    )

-- ---- lengths

line_is_short : (n : PointNumbers) → length (line_of point_form n) ≤ 249
line_is_short (one x) =
    omega (arith, fraction_is_short x, length-append (fraction_text x) (10 ∷ []))
line_is_short (three p) =
    let l = fraction_text p.left in
    let v = fraction_text p.value in
    let r = fraction_text p.right in
    omega (
      arith,
      fraction_is_short p.left,
      fraction_is_short p.value,
      fraction_is_short p.right,
      length-append l (32 ∷ (v ++ 32 ∷ (r ++ 10 ∷ []))),
      length-append v (32 ∷ (r ++ 10 ∷ [])),
      length-append r (10 ∷ []),
    )

points_are_short : (points : List Point) → length (flat_map point_line points) ≤ 249 * length points
points_are_short [] = omega arith
points_are_short (p ∷ points) =
    omega (
      arith,
      line_is_short (numbers_of p),
      points_are_short points,
      length-append
          (point_line p) (flat_map point_line points),
    )

-- the lines of a function have at most 250,000 bytes
pub function_lines_are_short : (f : FunctionData) (lines : List ℕ) → IsWithinBounds f →
    AreFunctionLines f lines →
    length lines ≤ 250000
function_lines_are_short f lines within are =
    let high = within.order_high in
    omega (
      arith,
      ap length are.spelled,
      count_of_points are.points f within are.points_are,
      points_are_short are.points,
      count_is_short f.order (omega arith),
      fraction_is_short are.place,
      length-append (order_line f.order ++ place_line are.place) (flat_map point_line are.points),
      length-append (order_line f.order) (place_line are.place),
      length-append (decimal f.order) (10 ∷ []),
      length-append (fraction_text are.place) (10 ∷ []),
    )
