-- One fractional part of a number, and one value at a fraction.
use Rattle.std.proofs.Common.{◌≡◌, ◌≢◌, ℕ, ◌*◌, ◌<◌, Bool, true, false, ℤ, pos, int_lt, ◌-ℤ◌, ◌*ℤ◌, ◌<ℤ◌, unsigned_abs, refl, sym, arith}
use Rattle.std.proofs.Math.Nat.{mul-pos}
use Rattle.std.proofs.lemmas.Int.{ints}
use Rattle.std.specs.Int.{int_div_euclid}
use Rattle.gj_frac.specs.declared.Frac.{Frac}
use Rattle.gj_frac.specs.Floor.{IsFloor, rest_above, HasFractionalPart}
use Rattle.gj_frac.specs.Fraction.{IsInside, numerator, denominator, fraction_of, quotient_of}
use Rattle.gj_frac.proofs.Floors.{quotient_is_floor}
use Rattle.gj_frac.proofs.SameValues.{same_from_is}
use Rattle.gj_lemmas.proofs.Integers.{mul_some_z, positive_some_z}
use Rattle.gj_shape.specs.FunctionData.{FunctionData, IsWithinBounds}
use Rattle.gj_shape.specs.Table.{table}
use Rattle.gj_shape.specs.Values.{IsValueAt}
use Rattle.gj_shape.proofs.ValueLemmas.{natural_index}
use Rattle.gj_theory.specs.Cuts.{IsGmicValue, one_minus}

-- there is one fractional part
pub one_part : (x f g : Frac) → HasFractionalPart x (numerator f) (denominator f) →
    HasFractionalPart x (numerator g) (denominator g) → f ≡ g
one_part x f g h k =
    let floor = quotient_is_floor x in
    same_from_is f g _ x.den (positive_some_z x.den x.lowest.positive) (sym (h _ floor))
    (sym (k _ floor))

-- ---- one value of the mixed-integer cut

pub one_minus_some : (f : Frac) → IsInside f → unsigned_abs (pos 1 *ℤ f.den -ℤ f.num *ℤ pos 1) ≢ 0
one_minus_some f inside = let low = inside.1 in omega (arith, ints)

one_value_above : (f x y z : Frac) (w : ℤ) → IsInside f → IsFloor x w → IsGmicValue f x y →
    IsGmicValue f x z → y ≡ z
one_value_above f x y z w inside floor h k =
    by_test (int_lt (f.num *ℤ x.den) ((x.num -ℤ w *ℤ x.den) *ℤ f.den)) refl
  where
    x_some : unsigned_abs x.den ≢ 0
    x_some = positive_some_z x.den x.lowest.positive

    by_test : (b : Bool) → int_lt (f.num *ℤ x.den) ((x.num -ℤ w *ℤ x.den) *ℤ f.den) ≡ b → y ≡ z
    by_test true e =
        let above : (f.num *ℤ x.den) <ℤ ((x.num -ℤ w *ℤ x.den) *ℤ f.den) = omega (arith, ints) in
        let value = quotient_of (one_minus (rest_above x w)) (one_minus (fraction_of f)) in
        let some =
        mul_some_z (pos 1 *ℤ x.den) (pos 1 *ℤ f.den -ℤ f.num *ℤ pos 1)
        (mul_some_z (pos 1) x.den (omega (arith, ints)) x_some)
        (one_minus_some f inside) in
        same_from_is y z value.top value.bottom some (h.falls w floor above) (k.falls w floor above)
    by_test false e =
        let not_above : (f.num *ℤ x.den) <ℤ ((x.num -ℤ w *ℤ x.den) *ℤ f.den) →
        ⊥ = λ less. absurd (omega (arith, ints)) in
        let value = quotient_of (rest_above x w) (fraction_of f) in
        same_from_is y z value.top value.bottom
        (mul_some_z x.den f.num x_some (positive_some_z f.num inside.0))
        (h.rises w floor not_above)
        (k.rises w floor not_above)

pub one_gmic_value : (f x y z : Frac) → IsInside f → IsGmicValue f x y → IsGmicValue f x z → y ≡ z
one_gmic_value f x y z inside h k = one_value_above f x y z (int_div_euclid x.num x.den) inside
    (quotient_is_floor x) h k

-- ---- one value of a function

pub one_value : (f : FunctionData) (n : ℤ) (d : ℕ) (x y : Frac) → IsWithinBounds f → 0 < d →
    IsValueAt f n d x → IsValueAt f n d y → x ≡ y
one_value f n d x y l some x_is y_is =
    let low = l.order_low in
    let (j, congruent) = natural_index n (f.order * d) (mul-pos (omega arith) some) in
    let scale = mul-pos l.scale_low some in
    same_from_is x y (table f d j) (pos (f.scale * d)) (omega (arith, ints)) (x_is j congruent)
    (y_is j congruent)
