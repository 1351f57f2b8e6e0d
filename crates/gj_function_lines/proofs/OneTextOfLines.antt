-- A function has one text of its lines.
use Rattle.std.proofs.Common.{◌≡◌, ℕ, ◌<◌, List, pos, sym, ap, ◌∙◌, arith}
use Rattle.gj_frac.specs.declared.Frac.{Frac}
use Rattle.gj_frac.specs.Fraction.{IsRatio}
use Rattle.gj_frac.proofs.SameValues.{same_from_is}
use Rattle.gj_shape.specs.FunctionData.{FunctionData, IsWithinBounds}
use Rattle.gj_shape.proofs.GivenPoints.{one_list_of_points}
use Rattle.gj_function_lines.specs.FunctionLines.{lines_of, AreFunctionLines}

-- a place of an order stands for one fraction
pub place_of_function : (x y : Frac) (q k : ℕ) → 0 < q → IsRatio x (pos k) (pos q) →
    IsRatio y (pos k) (pos q) → x ≡ y
place_of_function x y q k some a b = same_from_is x y (pos k) (pos q) (λ z. omega arith) a b

-- a function has one text of its lines
pub one_text_of_lines : (f : FunctionData) (a b : List ℕ) → IsWithinBounds f →
    AreFunctionLines f a → AreFunctionLines f b →
    a ≡ b
one_text_of_lines f a b within p q =
    let low = within.order_low in
    let place_is = place_of_function p.place q.place f.order f.place
    (omega arith) p.place_is q.place_is in
    let points_are = one_list_of_points f p.points q.points within p.points_are q.points_are in
    p.spelled ∙ ap (λ x. lines_of f.order x p.points) place_is
    ∙ ap (lines_of f.order q.place) points_are ∙ sym q.spelled
