-- Minimal and extreme functions are so among the valid functions on all fractions.
use Rattle.std.proofs.Common.{◌≡◌, ℕ, ◌*◌, ◌<◌, [], ◌∷◌, ℤ, pos, ◌+ℤ◌, ◌*ℤ◌, refl, sym, subst, ap, ◌∙◌, arith}
use Rattle.std.proofs.Math.Nat.{mul-pos, mul_comm}
use Rattle.std.proofs.lemmas.Int.{ints}
use Rattle.gj_lemmas.proofs.Integers.{mul_le_mul_left_z, mul_nonnegative_z, mul_positive_z}
use Rattle.gj_lemmas.proofs.Ring.{by_ring, ring}
use Rattle.gj_frac.specs.Fraction.{sum_of}
use Rattle.gj_shape.specs.Extreme.{IsExtreme}
use Rattle.gj_shape.specs.FunctionData.{FunctionData, IsWithinBounds}
use Rattle.gj_shape.specs.Table.{table, IsMinimal}
use Rattle.gj_shape.specs.Valid.{weight, IsValidTable}
use Rattle.gj_theory.proofs.ValidTables.{function_minimal, function_extreme}
use Rattle.gj_theory.proofs.Weights.{weight_of_multiple}
use Rattle.gj_valid.proofs.PartFunctions.{IsMinimalPart, IsExtremePart, part_of}
use Rattle.gj_valid.proofs.OverOneBottom.{Is, is_over, same_over, same_numbers, sum_is, most_to_numbers}
use Rattle.gj_valid.proofs.FunctionTables.{has_table, on_grid, function_is, function_valid, function_on_grid}

-- e times a valid table
pub multiple_valid : (t : ℕ → ℤ) (n k s e r : ℕ) → IsValidTable t n k s → r ≡ e * s →
    IsValidTable (λ i. pos e *ℤ t i) n k r
multiple_valid t n k s e r h scale = record {
  has_period = λ i. ap (λ z. pos e *ℤ z) (h.has_period i);
  nonnegative = λ i. mul_nonnegative_z (pos e) (t i) (omega (arith, ints)) (h.nonnegative i);
  at_solutions = λ places solution.
      let whole = weight_of_multiple t (pos e) places in
      let least = mul_le_mul_left_z (pos s) (weight t places) (pos e) (omega (arith, ints))
      (h.at_solutions places solution) in
      omega (arith, ints);
}

pub minimal_among_functions : (f : FunctionData) → IsWithinBounds f → IsMinimal f →
    IsMinimalPart (part_of f) f.place f.order
minimal_among_functions f l h =
    let order : 0 < f.order = let low = l.order_low in omega arith in
    let scale : 0 < f.scale = let low = l.scale_low in omega arith in
    let function = function_is f l in
    record {
      valid = function_valid f l (λ m some. (function_minimal f l h m some).valid);
      none_below = λ u valid below n d some.
          let grid : 0 < f.order * d = mul-pos order some in
          let r = has_table u f.place f.order d order some valid in
          let s = f.scale * d in
          let s_some : 0 < s = mul-pos scale some in
          let u_is = λ (i : ℕ). is_over (u i (f.order * d)) (r.t i) r.c s (r.c * s) (r.is i)
          (mul_comm r.c s) in
          let f_is = λ (i : ℕ).
          is_over (part_of f i (f.order * d)) (table f d i) s r.c (r.c * s)
          (function_on_grid f i d order some) refl in
          let equal = (function_minimal f l h d some).none_below r.c (λ i. pos s *ℤ r.t i) (record {
            some = r.some;
            valid = multiple_valid r.t (f.order * d) (f.place * d) r.c s (r.c * s) r.valid
                (mul_comm r.c s);
            at_most = λ i.
                most_to_numbers (u i (f.order * d)) (part_of f i (f.order * d)) (pos s *ℤ r.t i)
                (pos r.c *ℤ table f d i) (r.c * s)
                (valid.function.positive i (f.order * d) grid)
                (function.positive i (f.order * d) grid) (mul-pos r.some s_some)
                (u_is i) (f_is i) (below i (f.order * d) grid);
          }) (n * f.order) in
          same_over (u n d) (part_of f n d) (pos s *ℤ r.t (n * f.order)) (r.c * s)
          (mul-pos r.some s_some)
          (on_grid u f.order n d (r.c * s) (pos s *ℤ r.t (n * f.order)) order some valid.function
          (u_is (n * f.order)))
          (subst (λ (z : ℤ). Is (part_of f n d) z (r.c * s)) (sym equal)
          (on_grid (part_of f) f.order n d (r.c * s) (pos r.c *ℤ table f d (n * f.order)) order some
          function (f_is (n * f.order))));
    }

-- the numbers of two functions and of one that is half their sum
halves : (x y : ℤ) (z : ℤ) (c : ℕ) → x +ℤ y ≡ pos c *ℤ z +ℤ pos c *ℤ z → x +ℤ y ≡ pos (2 * c) *ℤ z
halves x y z c e = e ∙ by_ring (z ∷ pos c ∷ []) (search ring depth 20) refl

pub extreme_among_functions : (f : FunctionData) → IsWithinBounds f → IsExtreme f →
    IsExtremePart (part_of f) f.place f.order
extreme_among_functions f l h =
    let order : 0 < f.order = let low = l.order_low in omega arith in
    let scale : 0 < f.scale = let low = l.scale_low in omega arith in
    let function = function_is f l in
    record {
      valid = function_valid f l (λ m some. (function_extreme f l h m some).valid);
      no_average = λ a b a_valid b_valid average n d some.
          let grid : 0 < f.order * d = mul-pos order some in
          let p = has_table a f.place f.order d order some a_valid in
          let r = has_table b f.place f.order d order some b_valid in
          let s = f.scale * d in
          let s_some : 0 < s = mul-pos scale some in
          let c = p.c * r.c in
          let c_some : 0 < c = mul-pos p.some r.some in
          let first : c * s ≡ r.c * s * p.c = omega arith in
          let second : c * s ≡ p.c * s * r.c = omega arith in
          let a_is = λ (i : ℕ). is_over (a i (f.order * d)) (p.t i) p.c (r.c * s) (c * s)
          (p.is i) first in
          let b_is = λ (i : ℕ). is_over (b i (f.order * d)) (r.t i) r.c (p.c * s) (c * s)
          (r.is i) second in
          let f_is = λ (i : ℕ).
          is_over (part_of f i (f.order * d)) (table f d i) s c (c * s)
          (function_on_grid f i d order some) refl in
          let equal = (function_extreme f l h d some).no_average c (λ i. pos (r.c * s) *ℤ p.t i)
          (λ i. pos (p.c * s) *ℤ r.t i) c_some
          (multiple_valid p.t (f.order * d) (f.place * d) p.c (r.c * s) (c * s) p.valid first)
          (multiple_valid r.t (f.order * d) (f.place * d) r.c (p.c * s) (c * s) r.valid second)
          (λ i.
          let x = a i (f.order * d) in
          let y = b i (f.order * d) in
          let z = part_of f i (f.order * d) in
          halves (pos (r.c * s) *ℤ p.t i) (pos (p.c * s) *ℤ r.t i) (table f d i) c
          (same_numbers (sum_of x y) (sum_of z z) (pos (r.c * s) *ℤ p.t i +ℤ pos (p.c * s) *ℤ r.t i)
          (pos c *ℤ table f d i +ℤ pos c *ℤ table f d i) (c * s)
          (mul_positive_z x.bottom y.bottom (a_valid.function.positive i (f.order * d) grid)
          (b_valid.function.positive i (f.order * d) grid))
          (mul_positive_z z.bottom z.bottom (function.positive i (f.order * d) grid)
          (function.positive i (f.order * d) grid))
          (average i (f.order * d) grid)
          (sum_is x y (pos (r.c * s) *ℤ p.t i) (pos (p.c * s) *ℤ r.t i) (c * s) (a_is i) (b_is i))
          (sum_is z z (pos c *ℤ table f d i) (pos c *ℤ table f d i) (c * s) (f_is i) (f_is i))))
          (n * f.order) in
          same_over (a n d) (b n d) (pos (r.c * s) *ℤ p.t (n * f.order)) (c * s)
          (mul-pos c_some s_some)
          (on_grid a f.order n d (c * s) (pos (r.c * s) *ℤ p.t (n * f.order)) order some
          a_valid.function (a_is (n * f.order)))
          (subst (λ (z : ℤ). Is (b n d) z (c * s)) (sym equal)
          (on_grid b f.order n d (c * s) (pos (p.c * s) *ℤ r.t (n * f.order)) order some
          b_valid.function (b_is (n * f.order))));
    }
