-- What is said of minimal and extreme functions by parts, said of functions of fractions.
use Rattle.std.proofs.Common.{ℕ, ◌<◌, List, map, unsigned_abs, subst, arith}
use Rattle.std.specs.Prelude.{sum}
use Rattle.gj_lemmas.proofs.Integers.{abs_positive_z}
use Rattle.gj_frac.specs.Fraction.{Fraction, AtMostValue}
use Rattle.gj_shape.specs.Extreme.{IsExtreme}
use Rattle.gj_shape.specs.FunctionData.{FunctionData, IsWithinBounds, IsContinuous}
use Rattle.gj_shape.specs.Table.{IsMinimal}
use Rattle.gj_valid.specs.ValidFunctions.{over, IsNonnegative, IsSamePoint, total_of, IsFunction, IsValidFunction, IsMinimalAmongFunctions, IsExtremeAmongFunctions, function_of}
use Rattle.gj_valid.proofs.PartFunctions.{IsValidPart, part_of}
use Rattle.gj_valid.proofs.MinimalFunctions.{minimal_among_functions, extreme_among_functions}
use Rattle.gj_valid.proofs.OnlyMinimal.{only_minimal}
use Rattle.gj_valid.proofs.OnlyExtreme.{only_extreme}
use Rattle.gj_valid.proofs.SamePoints.{parts_are, same_point}
use Rattle.gj_valid.proofs.OnFractions.{function_from_parts, valid_by_bottoms, minimal_at_parts, minimal_from_parts, extreme_at_parts, extreme_from_parts}

order_some : (f : FunctionData) → IsWithinBounds f → 0 < f.order
order_some f l = let low = l.order_low in omega arith

data_function : (f : FunctionData) → IsValidPart (part_of f) f.place f.order →
    IsFunction (function_of f)
data_function f h = function_from_parts (part_of f) h.function h.nonnegative

pub model_minimal : (f : FunctionData) → IsWithinBounds f → IsMinimal f →
    IsMinimalAmongFunctions (function_of f) (over f.place f.order)
model_minimal f l h =
    let minimal = minimal_among_functions f l h in
    minimal_from_parts (function_of f) f.place f.order (order_some f l)
    (data_function f minimal.valid) minimal

pub model_only_minimal : (f : FunctionData) → IsWithinBounds f →
    IsMinimalAmongFunctions (function_of f) (over f.place f.order) → IsMinimal f
model_only_minimal f l h =
    only_minimal f l (minimal_at_parts (function_of f) f.place f.order (order_some f l) h)

pub model_extreme : (f : FunctionData) → IsWithinBounds f → IsExtreme f →
    IsExtremeAmongFunctions (function_of f) (over f.place f.order)
model_extreme f l h =
    let extreme = extreme_among_functions f l h in
    extreme_from_parts (function_of f) f.place f.order (order_some f l)
    (data_function f extreme.valid) extreme

pub model_only_extreme : (f : FunctionData) → IsWithinBounds f → IsContinuous f →
    IsExtremeAmongFunctions (function_of f) (over f.place f.order) → IsExtreme f
model_only_extreme f l continuous h =
    only_extreme f l continuous
    (extreme_at_parts (function_of f) f.place f.order (order_some f l) h)

pub valid_over_one_bottom : (v : Fraction → Fraction) (f : Fraction) → IsNonnegative f →
    IsFunction v →
    ((d : ℕ) (tops : List ℕ) → 0 < d → IsSamePoint (over (sum tops) d) f →
    AtMostValue (over 1 1) (total_of (map (λ n. v (over n d)) tops))) →
    IsValidFunction v f
valid_over_one_bottom v f low h each =
    let k = unsigned_abs f.top in
    let q = unsigned_abs f.bottom in
    subst (IsValidFunction v) (parts_are f low)
    (valid_by_bottoms v k q (abs_positive_z f.bottom low.1) h
    (λ d tops some place. each d tops some
    (subst (IsSamePoint (over (sum tops) d)) (parts_are f low)
    (same_point (sum tops) d k q place))))
