-- The slopes at 0 of a rule, and the weight of a column, are one.
use Rattle.std.proofs.Common.{◌≡◌, ◌≢◌, ◌-◌, Bool, true, false, pos, int_lt, neg_ℤ, ◌-ℤ◌, ◌*ℤ◌, ◌<ℤ◌, ◌≤ℤ◌, unsigned_abs, refl, arith}
use Rattle.std.proofs.lemmas.Int.{ints}
use Rattle.gj_lemmas.proofs.Integers.{mul_some_z, positive_some_z}
use Rattle.gj_frac.specs.declared.Frac.{Frac}
use Rattle.gj_frac.specs.Fraction.{IsInside, fraction_of, quotient_of}
use Rattle.gj_frac.proofs.SameValues.{same_from_is}
use Rattle.gj_shape.specs.FunctionData.{FunctionData, IsWithinBounds, at}
use Rattle.gj_theory.specs.Cuts.{one_minus}
use Rattle.gj_values.proofs.OneValue.{one_minus_some}
use Rattle.gj_mixed.specs.Slopes.{IsWeight, AreGmicSlopes, AreSlopesAtZero}

pub one_weight : (up down c w v : Frac) → IsWeight up down c w → IsWeight up down c v → w ≡ v
one_weight up down c w v h k = by_sign (int_lt c.num (pos 0)) refl
  where
    up_some : unsigned_abs (up.den *ℤ c.den) ≢ 0
    up_some = mul_some_z up.den c.den (positive_some_z up.den up.lowest.positive)
        (positive_some_z c.den c.lowest.positive)

    down_some : unsigned_abs (down.den *ℤ c.den) ≢ 0
    down_some = mul_some_z down.den c.den (positive_some_z down.den down.lowest.positive)
        (positive_some_z c.den c.lowest.positive)

    by_sign : (b : Bool) → int_lt c.num (pos 0) ≡ b → w ≡ v
    by_sign true e =
        let below : c.num <ℤ pos 0 = omega (arith, ints) in
        same_from_is w v (down.num *ℤ neg_ℤ c.num) (down.den *ℤ c.den) down_some (h.falls below)
        (k.falls below)
    by_sign false e =
        let from : pos 0 ≤ℤ c.num = omega (arith, ints) in
        same_from_is w v (up.num *ℤ c.num) (up.den *ℤ c.den) up_some (h.rises from) (k.rises from)

-- of the mixed-integer cut
pub one_up : (f up other : Frac) (down below : Frac) → IsInside f → AreGmicSlopes f up down →
    AreGmicSlopes f other below → up ≡ other
one_up f up other down below inside h k =
    same_from_is up other (pos 1 *ℤ f.den) (pos 1 *ℤ f.num)
    (mul_some_z (pos 1) f.num (omega (arith, ints)) (positive_some_z f.num inside.0)) h.up_is
    k.up_is

pub one_down : (f up other : Frac) (down below : Frac) → IsInside f → AreGmicSlopes f up down →
    AreGmicSlopes f other below → down ≡ below
one_down f up other down below inside h k =
    let value = quotient_of (record { top = pos 1; bottom = pos 1 }) (one_minus (fraction_of f)) in
    same_from_is down below value.top value.bottom
    (mul_some_z (pos 1) (pos 1 *ℤ f.den -ℤ f.num *ℤ pos 1) (omega (arith, ints))
    (one_minus_some f inside)) h.down_is k.down_is

-- of a function
pub one_up_at_zero : (f : FunctionData) (up other down below : Frac) → IsWithinBounds f →
    AreSlopesAtZero f up down → AreSlopesAtZero f other below →
    up ≡ other
one_up_at_zero f up other down below l h k =
    let scale = l.scale_low in
    let some : unsigned_abs (pos f.scale) ≢ 0 = omega (arith, ints) in
    same_from_is up other (pos f.order *ℤ (at f.value 1 -ℤ at f.value 0))
    (pos f.scale) some h.up_is k.up_is

pub one_down_at_zero : (f : FunctionData) (up other down below : Frac) → IsWithinBounds f →
    AreSlopesAtZero f up down → AreSlopesAtZero f other below →
    down ≡ below
one_down_at_zero f up other down below l h k =
    let scale = l.scale_low in
    let some : unsigned_abs (pos f.scale) ≢ 0 = omega (arith, ints) in
    same_from_is down below (pos f.order *ℤ (at f.value (f.order - 1) -ℤ at f.value 0))
    (pos f.scale) some h.down_is k.down_is
