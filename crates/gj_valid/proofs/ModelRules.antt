-- The rules of minimal functions, said of functions of fractions.
use Rattle.std.proofs.Common.{◌≡◌, ℕ, ◌+◌, ◌*◌, ◌%◌, ◌<◌, pos, unsigned_abs, ◌<ℤ◌, refl, sym, subst, subst₂, ap, arith}
use Rattle.std.proofs.Math.Nat.{mul-pos}
use Rattle.std.proofs.lemmas.Int.{ints}
use Rattle.gj_lemmas.proofs.Integers.{abs_positive_z, mul_positive_z}
use Rattle.gj_frac.specs.Fraction.{Fraction, SameValue, sum_of, AtMostValue}
use Rattle.gj_valid.specs.ValidFunctions.{over, IsNonnegative, IsSamePoint, IsFunction, IsMinimalAmongFunctions}
use Rattle.gj_valid.proofs.PartFunctions.{one, HasRules, at_parts}
use Rattle.gj_valid.proofs.OverOneBottom.{over_one, is_along, most_along, most_from_numbers, most_to_numbers, same_sums_of, same_trans}
use Rattle.gj_valid.proofs.FunctionRules.{rules_among, rules_only}
use Rattle.gj_valid.proofs.SamePoints.{parts_are, over_nonnegative, sum_nonnegative, same_point, same_place, same_point_along, same_value_point}
use Rattle.gj_valid.proofs.OnFractions.{function_at_parts, low_at_parts, minimal_at_parts, minimal_from_parts}

-- what has the value of a lower fraction is lower
most_before : (x y z : Fraction) → pos 0 <ℤ x.bottom → pos 0 <ℤ y.bottom → pos 0 <ℤ z.bottom →
    SameValue z x → AtMostValue x y → AtMostValue z y
most_before x y z x_some y_some z_some same most =
    let o = over_one x y x_some y_some in
    most_from_numbers z y o.n o.m o.c z_some y_some o.some (is_along z x o.n o.c x_some same o.x_is)
    o.y_is
    (most_to_numbers x y o.n o.m o.c x_some y_some o.some o.x_is o.y_is most)

-- ---- from the rules

sum_over : (n m d : ℕ) → SameValue (over (n + m) d) (sum_of (over n d) (over m d))
sum_over n m d = let whole : (n + m) * (d * d) ≡ (n * d + m * d) * d = omega arith in ap pos whole

rules_at_parts : (v : Fraction → Fraction) (k q : ℕ) → 0 < q → IsFunction v →
    SameValue (v (over 0 1)) (over 0 1) →
    ((x y : Fraction) → IsNonnegative x → IsNonnegative y →
    AtMostValue (v (sum_of x y)) (sum_of (v x) (v y))) →
    ((x y : Fraction) → IsNonnegative x → IsNonnegative y → IsSamePoint (sum_of x y) (over k q) →
    SameValue (sum_of (v x) (v y)) (over 1 1)) →
    HasRules (at_parts v) k q
rules_at_parts v k q q_some h zero below opposite = record {
  function = function_at_parts v h;
  zero_at_zero = zero;
  nonnegative = λ n d some. low_at_parts v n d h some;
  subadditive = λ n m d some.
      let x = over n d in
      let y = over m d in
      let x_low = over_nonnegative n d some in
      let y_low = over_nonnegative m d some in
      let s_low = sum_nonnegative x y x_low y_low in
      let z_low = over_nonnegative (n + m) d some in
      let right = mul_positive_z (v x).bottom (v y).bottom (h.nonnegative x x_low).1
      (h.nonnegative y y_low).1 in
      most_before (v (sum_of x y)) (sum_of (v x) (v y)) (v (over (n + m) d))
      (h.nonnegative (sum_of x y) s_low).1 right
      (h.nonnegative (over (n + m) d) z_low).1
      (h.has_period (over (n + m) d) (sum_of x y) z_low s_low
      (same_value_point (over (n + m) d) (sum_of x y) z_low.1 s_low.1 (sum_over n m d)))
      (below x y x_low y_low);
  symmetric = λ n m d some place.
      let x = over n d in
      let y = over m d in
      let x_low = over_nonnegative n d some in
      let y_low = over_nonnegative m d some in
      opposite x y x_low y_low
      (same_point_along (sum_of x y) (over (n + m) d) (over k q) (sum_nonnegative x y x_low y_low).1
      (over_nonnegative (n + m) d some).1
      (over_nonnegative k q q_some).1 (sym (sum_over n m d)) (same_point (n + m) d k q place));
}

pub model_rules : (v : Fraction → Fraction) (f : Fraction) → IsNonnegative f → IsFunction v →
    SameValue (v (over 0 1)) (over 0 1) →
    ((x y : Fraction) → IsNonnegative x → IsNonnegative y →
    AtMostValue (v (sum_of x y)) (sum_of (v x) (v y))) →
    ((x y : Fraction) → IsNonnegative x → IsNonnegative y → IsSamePoint (sum_of x y) f →
    SameValue (sum_of (v x) (v y)) (over 1 1)) →
    IsMinimalAmongFunctions v f
model_rules v f low h zero below opposite =
    let k = unsigned_abs f.top in
    let q = unsigned_abs f.bottom in
    let q_some = abs_positive_z f.bottom low.1 in
    subst (IsMinimalAmongFunctions v) (parts_are f low)
    (minimal_from_parts v k q q_some h (rules_among (at_parts v) k q q_some
    (rules_at_parts v k q q_some h zero below
    (λ x y x_low y_low place. opposite x y x_low y_low
    (subst (IsSamePoint (sum_of x y)) (parts_are f low) place)))))

-- ---- to the rules

has_rules : (v : Fraction → Fraction) (f : Fraction) → IsNonnegative f →
    IsMinimalAmongFunctions v f →
    HasRules (at_parts v) (unsigned_abs f.top) (unsigned_abs f.bottom)
has_rules v f low h =
    let q_some = abs_positive_z f.bottom low.1 in
    rules_only (at_parts v) (unsigned_abs f.top) (unsigned_abs f.bottom) q_some
    (minimal_at_parts v (unsigned_abs f.top) (unsigned_abs f.bottom) q_some
    (subst (IsMinimalAmongFunctions v) (sym (parts_are f low)) h))

pub model_zero : (v : Fraction → Fraction) (f : Fraction) → IsNonnegative f →
    IsMinimalAmongFunctions v f →
    SameValue (v (over 0 1)) (over 0 1)
model_zero v f low h = (has_rules v f low h).zero_at_zero

-- the values at two points and at the same over one bottom
values_over_one : (v : Fraction → Fraction) (n d m e : ℕ) → 0 < d → 0 < e → IsFunction v →
    SameValue (sum_of (v (over n d)) (v (over m e)))
    (sum_of (v (over (n * e) (d * e))) (v (over (m * d) (d * e))))
values_over_one v n d m e d_some e_some h =
    let parts = function_at_parts v h in
    let some : 0 < d * e = mul-pos d_some e_some in
    same_sums_of (v (over n d)) (v (over m e)) (v (over (n * e) (d * e))) (v (over (m * d) (d * e)))
    (parts.positive (n * e) (d * e) some) (parts.positive (m * d) (d * e) some)
    (parts.at_points n d (n * e) (d * e) d_some some (ap (λ i. i % (d * (d * e))) (omega arith)))
    (parts.at_points m e (m * d) (d * e) e_some some (ap (λ i. i % (e * (d * e))) (omega arith)))

sum_positive : (v : Fraction → Fraction) (n d m e : ℕ) → 0 < d → 0 < e → IsFunction v →
    pos 0 <ℤ (sum_of (v (over n d)) (v (over m e))).bottom
sum_positive v n d m e d_some e_some h =
    mul_positive_z (v (over n d)).bottom (v (over m e)).bottom
    (h.nonnegative (over n d) (over_nonnegative n d d_some)).1
    (h.nonnegative (over m e) (over_nonnegative m e e_some)).1

pub model_subadditive : (v : Fraction → Fraction) (f x y : Fraction) → IsNonnegative f →
    IsMinimalAmongFunctions v f →
    IsNonnegative x → IsNonnegative y → AtMostValue (v (sum_of x y)) (sum_of (v x) (v y))
model_subadditive v f x y low h x_low y_low =
    let n = unsigned_abs x.top in
    let d = unsigned_abs x.bottom in
    let m = unsigned_abs y.top in
    let e = unsigned_abs y.bottom in
    let d_some = abs_positive_z x.bottom x_low.1 in
    let e_some = abs_positive_z y.bottom y_low.1 in
    let some : 0 < d * e = mul-pos d_some e_some in
    let function = h.valid.function in
    subst₂ (λ s t. AtMostValue (v (sum_of s t)) (sum_of (v s) (v t))) (parts_are x x_low)
    (parts_are y y_low)
    (most_along (v (over (n * e + m * d) (d * e)))
    (sum_of (v (over (n * e) (d * e))) (v (over (m * d) (d * e))))
    (sum_of (v (over n d)) (v (over m e)))
    (function.nonnegative (over (n * e + m * d) (d * e))
    (over_nonnegative (n * e + m * d) (d * e) some)).1
    (sum_positive v (n * e) (d * e) (m * d) (d * e) some some function)
    (sum_positive v n d m e d_some e_some function)
    ((has_rules v f low h).subadditive (n * e) (m * d) (d * e) some)
    (values_over_one v n d m e d_some e_some function))

pub model_symmetric : (v : Fraction → Fraction) (f x y : Fraction) → IsNonnegative f →
    IsMinimalAmongFunctions v f →
    IsNonnegative x → IsNonnegative y → IsSamePoint (sum_of x y) f →
    SameValue (sum_of (v x) (v y)) (over 1 1)
model_symmetric v f x y low h x_low y_low place =
    let n = unsigned_abs x.top in
    let d = unsigned_abs x.bottom in
    let m = unsigned_abs y.top in
    let e = unsigned_abs y.bottom in
    let d_some = abs_positive_z x.bottom x_low.1 in
    let e_some = abs_positive_z y.bottom y_low.1 in
    let some : 0 < d * e = mul-pos d_some e_some in
    let function = h.valid.function in
    let whole : IsSamePoint (over (n * e + m * d) (d * e))
    (over (unsigned_abs f.top) (unsigned_abs f.bottom)) =
    subst₂ IsSamePoint (sym (sums_are x y x_low y_low)) (sym (parts_are f low)) place in
    subst₂ (λ s t. SameValue (sum_of (v s) (v t)) one) (parts_are x x_low) (parts_are y y_low)
    (same_trans (sum_of (v (over n d)) (v (over m e)))
    (sum_of (v (over (n * e) (d * e))) (v (over (m * d) (d * e)))) one
    (sum_positive v (n * e) (d * e) (m * d) (d * e) some some function) (omega (arith, ints))
    (values_over_one v n d m e d_some e_some function)
    ((has_rules v f low h).symmetric (n * e) (m * d) (d * e) some
    (same_place (n * e + m * d) (d * e) (unsigned_abs f.top) (unsigned_abs f.bottom) whole)))
  where
    sums_are : (x y : Fraction) → IsNonnegative x → IsNonnegative y →
        over (unsigned_abs x.top * unsigned_abs y.bottom + unsigned_abs y.top
        * unsigned_abs x.bottom) (unsigned_abs x.bottom * unsigned_abs y.bottom)
        ≡ sum_of x y
    sums_are x y x_low y_low =
        subst₂ (λ s t. sum_of (over (unsigned_abs x.top) (unsigned_abs x.bottom))
        (over (unsigned_abs y.top) (unsigned_abs y.bottom)) ≡ sum_of s t)
        (parts_are x x_low) (parts_are y y_low) refl
