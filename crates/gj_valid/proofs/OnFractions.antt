-- Functions of fractions are valid, minimal and extreme exactly if they are so by the parts of
-- their points.
use Rattle.std.proofs.Common.{◌≡◌, ℕ, ◌<◌, List, [], ◌∷◌, map, pos, unsigned_abs, ◌<ℤ◌, refl, sym, subst, subst₂, ap, arith}
use Rattle.std.specs.Prelude.{sum}
use Rattle.std.specs.List.{All}
use Rattle.std.proofs.lemmas.Int.{ints}
use Rattle.std.proofs.lemmas.List.Elements.{All-nil, All-cons}
use Rattle.gj_lemmas.proofs.Integers.{abs_positive_z}
use Rattle.gj_frac.specs.Fraction.{Fraction, SameValue, sum_of, AtMostValue}
use Rattle.gj_theory.proofs.Weights.{sum_cons}
use Rattle.gj_valid.specs.ValidFunctions.{over, IsNonnegative, IsSamePoint, total_of, IsFunction, IsValidFunction, IsMinimalAmongFunctions, IsExtremeAmongFunctions}
use Rattle.gj_valid.proofs.PartFunctions.{SamePlace, nothing, one, sum_of_values, IsPartFunction, IsValidPart, IsMinimalPart, IsExtremePart, at_parts, from_parts}
use Rattle.gj_valid.proofs.OverOneBottom.{Is, sum_is, most_along, values_positive}
use Rattle.gj_valid.proofs.SamePoints.{parts_are, over_nonnegative, same_point, same_place, same_point_along}
use Rattle.gj_valid.proofs.AnyBottoms.{over_one_bottom}

-- ---- functions

pub function_at_parts : (v : Fraction → Fraction) → IsFunction v → IsPartFunction (at_parts v)
function_at_parts v h = record {
  positive = λ n d some. (h.nonnegative (over n d) (over_nonnegative n d some)).1;
  at_points = λ n d m e d_some e_some same.
      h.has_period (over n d) (over m e) (over_nonnegative n d d_some) (over_nonnegative m e e_some)
      (same_point n d m e same);
}

pub low_at_parts : (v : Fraction → Fraction) (n d : ℕ) → IsFunction v → 0 < d →
    AtMostValue nothing (at_parts v n d)
low_at_parts v n d h some = let low = (h.nonnegative (over n d) (over_nonnegative n d some)).0 in
    omega (arith, ints)

pub function_from_parts : (v : ℕ → ℕ → Fraction) → IsPartFunction v →
    ((n d : ℕ) → 0 < d → AtMostValue nothing (v n d)) →
    IsFunction (from_parts v)
function_from_parts v h low = record {
  nonnegative = λ x x_low.
      let some = abs_positive_z x.bottom x_low.1 in
      let here = low (unsigned_abs x.top) (unsigned_abs x.bottom) some in
      (omega (arith, ints), h.positive (unsigned_abs x.top) (unsigned_abs x.bottom) some);
  has_period = λ x y x_low y_low same.
      h.at_points (unsigned_abs x.top) (unsigned_abs x.bottom) (unsigned_abs y.top)
      (unsigned_abs y.bottom)
      (abs_positive_z x.bottom x_low.1) (abs_positive_z y.bottom y_low.1)
      (same_place (unsigned_abs x.top) (unsigned_abs x.bottom) (unsigned_abs y.top)
      (unsigned_abs y.bottom)
      (subst₂ IsSamePoint (sym (parts_are x x_low)) (sym (parts_are y y_low)) same));
}

-- ---- valid functions

-- a function is valid if it is so over each bottom
pub valid_by_bottoms : (v : Fraction → Fraction) (k q : ℕ) → 0 < q → IsFunction v →
    ((d : ℕ) (tops : List ℕ) → 0 < d → SamePlace (sum tops) d k q →
    AtMostValue one (sum_of_values (at_parts v) d tops)) →
    IsValidFunction v (over k q)
valid_by_bottoms v k q q_some h each = record {
  function = h;
  at_solutions = λ points all solution.
      let parts = function_at_parts v h in
      let r = over_one_bottom v points parts all in
      let place = same_place (sum r.tops) r.d k q
      (same_point_along (over (sum r.tops) r.d) (total_of points) (over k q) (let some = r.some in
      omega (arith, ints)) r.bottom_some
      (omega (arith, ints)) (sym r.whole) solution) in
      most_along one (sum_of_values (at_parts v) r.d r.tops) (total_of (map v points))
      (omega (arith, ints))
      (values_positive (at_parts v) r.d r.tops (λ n. parts.positive n r.d r.some)) r.positive
      (each r.d r.tops r.some place) r.same;
}

pub valid_from_parts : (v : ℕ → ℕ → Fraction) (k q : ℕ) → 0 < q → IsValidPart v k q →
    IsValidFunction (from_parts v) (over k q)
valid_from_parts v k q q_some h =
    valid_by_bottoms (from_parts v) k q q_some (function_from_parts v h.function h.nonnegative)
    h.at_solutions

total_over : (d : ℕ) (tops : List ℕ) → Is (total_of (map (λ n. over n d) tops)) (pos (sum tops)) d
total_over d [] = omega (arith, ints)
total_over d (n ∷ tops) =
    subst (λ (l : ℕ). Is (total_of (map (λ n. over n d) (n ∷ tops))) (pos l) d)
    (sym (sum_cons n tops))
    (sum_is (over n d) (total_of (map (λ n. over n d) tops)) (pos n) (pos (sum tops)) d refl
    (total_over d tops))

all_over : (d : ℕ) (tops : List ℕ) → 0 < d → All IsNonnegative (map (λ n. over n d) tops)
all_over d [] some = All-nil IsNonnegative
all_over d (n ∷ tops) some =
    All-cons IsNonnegative (over n d) (map (λ n. over n d) tops) (over_nonnegative n d some)
    (all_over d tops some)

values_over : (v : Fraction → Fraction) (d : ℕ) (tops : List ℕ) →
    map v (map (λ n. over n d) tops) ≡ map (λ n. v (over n d)) tops
values_over v d [] = refl
values_over v d (n ∷ tops) = ap (λ l. v (over n d) ∷ l) (values_over v d tops)

pub values_at_solution : (v : Fraction → Fraction) (f : Fraction) (d : ℕ) (tops : List ℕ) →
    pos 0 <ℤ f.bottom → 0 < d →
    IsValidFunction v f → IsSamePoint (over (sum tops) d) f →
    AtMostValue one (sum_of_values (at_parts v) d tops)
values_at_solution v f d tops f_some some h solution =
    let points = map (λ n. over n d) tops in
    subst (λ (l : List Fraction). AtMostValue one (total_of l)) (values_over v d tops)
    (h.at_solutions points (all_over d tops some)
    (same_point_along (total_of points) (over (sum tops) d) f
    (values_positive (λ n d. over n d) d tops (λ n. omega (arith, ints)))
    (omega (arith, ints)) f_some (total_over d tops) solution))

pub valid_at_parts : (v : Fraction → Fraction) (k q : ℕ) → 0 < q → IsValidFunction v (over k q) →
    IsValidPart (at_parts v) k q
valid_at_parts v k q q_some h = record {
  function = function_at_parts v h.function;
  nonnegative = λ n d some. low_at_parts v n d h.function some;
  at_solutions = λ d tops some solution.
      values_at_solution v (over k q) d tops (omega (arith, ints)) some h
      (same_point (sum tops) d k q solution);
}

-- ---- minimal functions

pub minimal_at_parts : (v : Fraction → Fraction) (k q : ℕ) → 0 < q →
    IsMinimalAmongFunctions v (over k q) → IsMinimalPart (at_parts v) k q
minimal_at_parts v k q q_some h = record {
  valid = valid_at_parts v k q q_some h.valid;
  none_below = λ u valid below n d some.
      h.none_below (from_parts u) (valid_from_parts u k q q_some valid)
      (λ x low. subst (λ (y : Fraction). AtMostValue (from_parts u x) (v y)) (parts_are x low)
      (below (unsigned_abs x.top) (unsigned_abs x.bottom) (abs_positive_z x.bottom low.1)))
      (over n d) (over_nonnegative n d some);
}

pub minimal_from_parts : (v : Fraction → Fraction) (k q : ℕ) → 0 < q → IsFunction v →
    IsMinimalPart (at_parts v) k q →
    IsMinimalAmongFunctions v (over k q)
minimal_from_parts v k q q_some function h = record {
  valid = valid_by_bottoms v k q q_some function h.valid.at_solutions;
  none_below = λ u valid below x low.
      subst (λ (y : Fraction). SameValue (u y) (v y)) (parts_are x low)
      (h.none_below (at_parts u) (valid_at_parts u k q q_some valid)
      (λ n d some. below (over n d) (over_nonnegative n d some))
      (unsigned_abs x.top) (unsigned_abs x.bottom) (abs_positive_z x.bottom low.1));
}

-- ---- extreme functions

pub extreme_at_parts : (v : Fraction → Fraction) (k q : ℕ) → 0 < q →
    IsExtremeAmongFunctions v (over k q) → IsExtremePart (at_parts v) k q
extreme_at_parts v k q q_some h = record {
  valid = valid_at_parts v k q q_some h.valid;
  no_average = λ a b a_valid b_valid average n d some.
      h.no_average (from_parts a) (from_parts b) (valid_from_parts a k q q_some a_valid)
      (valid_from_parts b k q q_some b_valid)
      (λ x low. subst (λ (y : Fraction). SameValue (sum_of (from_parts a x) (from_parts b x))
      (sum_of (v y) (v y))) (parts_are x low)
      (average (unsigned_abs x.top) (unsigned_abs x.bottom) (abs_positive_z x.bottom low.1)))
      (over n d) (over_nonnegative n d some);
}

pub extreme_from_parts : (v : Fraction → Fraction) (k q : ℕ) → 0 < q → IsFunction v →
    IsExtremePart (at_parts v) k q →
    IsExtremeAmongFunctions v (over k q)
extreme_from_parts v k q q_some function h = record {
  valid = valid_by_bottoms v k q q_some function h.valid.at_solutions;
  no_average = λ a b a_valid b_valid average x low.
      subst (λ (y : Fraction). SameValue (a y) (b y)) (parts_are x low)
      (h.no_average (at_parts a) (at_parts b) (valid_at_parts a k q q_some a_valid)
      (valid_at_parts b k q q_some b_valid)
      (λ n d some. average (over n d) (over_nonnegative n d some))
      (unsigned_abs x.top) (unsigned_abs x.bottom) (abs_positive_z x.bottom low.1));
}
