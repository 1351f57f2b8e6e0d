-- The whole part of a fraction, and what is left of it.
use Rattle.std.proofs.Common.{◌≡◌, ℕ, ◌+◌, ◌-◌, ◌*◌, ◌/◌, ◌<◌, ◌≤◌, ◌⊎◌, ⊎_elim, ℤ, pos, negsuc, ◌+ℤ◌, ◌-ℤ◌, ◌*ℤ◌, neg_ℤ, ◌<ℤ◌, ◌≤ℤ◌, unsigned_abs, sym, ap, subst, ◌∙◌, arith}
use Rattle.std.proofs.Math.Nat.{dvd-add, dvd-sub}
use Rattle.std.proofs.lemmas.Int.{ints, unsigned_abs-mul}
use Rattle.std.proofs.lemmas.Nat.{div-add-mod', mod_below}
use Rattle.std.proofs.lemmas.Nat.Gcd.{dvd_trans}
use Rattle.std.proofs.Math.Nat.{dvd-mul_left, one-dvd}
use Rattle.std.specs.Int.{IsGcd, ◌∣◌, int_div_euclid, int_rem_euclid}
use Rattle.gj_frac.specs.declared.Frac.{Frac}
use Rattle.gj_frac.specs.Floor.{IsFloor}
use Rattle.gj_frac.specs.Lowest.{IsLowest}
use Rattle.gj_lemmas.proofs.Integers.{neg_mul_z, mul_lt_cancel_right_z}

-- ---- the quotient that is rounded down

nat_at_most : (a b : ℕ) → a / b * b ≤ a
nat_at_most a b = let e = div-add-mod' a b in omega arith

nat_next_above : (a b : ℕ) → 0 < b → a < (a / b + 1) * b
nat_next_above a b some =
    let e = div-add-mod' a b in
    let h = mod_below a b some in
    omega arith

-- the quotient times the divisor is at most the number
pub quotient_at_most : (n d : ℤ) → pos 0 <ℤ d → (int_div_euclid n d *ℤ d) ≤ℤ n
quotient_at_most (pos a) (pos b) some = let h = nat_at_most a b in omega (arith, ints)
quotient_at_most (negsuc a) (pos b) some =
    let h = nat_next_above a b (omega (arith, ints)) in omega (arith, ints)
quotient_at_most n (negsuc b) some = absurd (omega (arith, ints))

-- and the next quotient times the divisor is above it
pub next_quotient_above : (n d : ℤ) → pos 0 <ℤ d → n <ℤ ((int_div_euclid n d +ℤ pos 1) *ℤ d)
next_quotient_above (pos a) (pos b) some =
    let h = nat_next_above a b (omega (arith, ints)) in omega (arith, ints)
next_quotient_above (negsuc a) (pos b) some =
    let h = nat_at_most a b in
    let next : negsuc (a / b) +ℤ pos 1 ≡ neg_ℤ (pos (a / b)) = omega (arith, ints) in
    let turned = neg_mul_z (pos (a / b)) (pos b) in
    let above : negsuc a <ℤ (neg_ℤ (pos (a / b)) *ℤ pos b) = omega (arith, ints) in
    subst (λ z. negsuc a <ℤ (z *ℤ pos b)) (sym next) above
next_quotient_above n (negsuc b) some = absurd (omega (arith, ints))

-- the rest is what the quotient times the divisor leaves
pub rest_is : (n d : ℤ) → pos 0 <ℤ d → int_rem_euclid n d ≡ n -ℤ int_div_euclid n d *ℤ d
rest_is (pos a) (pos b) some = let e = div-add-mod' a b in omega (arith, ints)
rest_is (negsuc a) (pos b) some =
    let e = div-add-mod' a b in
    let h = mod_below a b (omega (arith, ints)) in
    omega (arith, ints)
rest_is n (negsuc b) some = absurd (omega (arith, ints))

-- ---- the floor

-- the quotient that is rounded down is the floor
pub quotient_is_floor : (x : Frac) → IsFloor x (int_div_euclid x.num x.den)
quotient_is_floor x = record {
  at_most = quotient_at_most x.num x.den x.lowest.positive;
  next_above = next_quotient_above x.num x.den x.lowest.positive;
}

-- a multiple of d that is at most n is below each multiple that is above n
floor_below : (n d k m : ℤ) → pos 0 <ℤ d → (k *ℤ d) ≤ℤ n → n <ℤ ((m +ℤ pos 1) *ℤ d) →
    k <ℤ (m +ℤ pos 1)
floor_below n d k m some h l = mul_lt_cancel_right_z k (m +ℤ pos 1) d some (omega (arith, ints))

-- a fraction has one floor
pub same_from_IsFloor : (x : Frac) (n m : ℤ) → IsFloor x n → IsFloor x m → n ≡ m
same_from_IsFloor x n m h k =
    let one = floor_below x.num x.den n m x.lowest.positive h.at_most k.next_above in
    let other = floor_below x.num x.den m n x.lowest.positive k.at_most h.next_above in
    omega (arith, ints)

-- ---- what is left

-- the absolute value of a sum is the sum or the difference of the absolute values
abs_sum_cases : (x y : ℤ) → (unsigned_abs (x +ℤ y) ≡ unsigned_abs x + unsigned_abs y)
    ⊎ ((unsigned_abs (x +ℤ y) ≡ unsigned_abs x - unsigned_abs y)
    ⊎ (unsigned_abs (x +ℤ y) ≡ unsigned_abs y - unsigned_abs x))
abs_sum_cases x y = grind (arith, ints)

-- a divisor of two whole numbers divides their sum
divides_sum : (d : ℕ) (x y : ℤ) → d ∣ unsigned_abs x → d ∣ unsigned_abs y →
    d ∣ unsigned_abs (x +ℤ y)
divides_sum d x y p q =
    ⊎_elim (λ e. subst (λ (n : ℕ). d ∣ n) (sym e) (dvd-add d p q))
    (⊎_elim (λ e. subst (λ (n : ℕ). d ∣ n) (sym e) (dvd-sub d p q))
    (λ e. subst (λ (n : ℕ). d ∣ n) (sym e) (dvd-sub d q p)))
    (abs_sum_cases x y)

-- the rest has no more in common with the divisor than the number has
rest_coprime : (n d q r : ℤ) → IsGcd (unsigned_abs n) (unsigned_abs d) 1 → r ≡ n -ℤ q *ℤ d →
    IsGcd (unsigned_abs r) (unsigned_abs d) 1
rest_coprime n d q r h e =
    let whole : n ≡ r +ℤ q *ℤ d = omega (arith, ints) in
    let multiple : (c : ℕ) → c ∣ unsigned_abs d → c ∣ unsigned_abs (q *ℤ d) = λ c v.
    subst (λ (m : ℕ). c ∣ m) (sym (unsigned_abs-mul q d))
    (dvd_trans c v (dvd-mul_left (unsigned_abs d) (unsigned_abs q))) in (
      one-dvd _,
      one-dvd _,
      λ c u v. h.2 c
          (subst (λ (z : ℤ). c ∣ unsigned_abs z) (sym whole)
          (divides_sum c r (q *ℤ d) u (multiple c v))) v,
    )

-- the rest over the divisor is in lowest terms, if the number over it is
pub rest_lowest : (n d r : ℤ) → IsLowest n d → r ≡ int_rem_euclid n d → pos 0 ≤ℤ r →
    unsigned_abs r < unsigned_abs d →
    IsLowest r d
rest_lowest n d r h e low high =
    let size = h.den_fits in
    record {
      positive = h.positive;
      num_fits = omega arith;
      den_fits = h.den_fits;
      coprime = rest_coprime n d (int_div_euclid n d) r h.coprime (e ∙ rest_is n d h.positive);
    }

-- 1 minus a fraction from 0 to 1 is in lowest terms
pub complement_lowest : (n d : ℤ) → IsLowest n d → pos 0 ≤ℤ n → n ≤ℤ d → IsLowest (d -ℤ n) d
complement_lowest n d h low high =
    let size = h.den_fits in
    let apart : IsGcd (unsigned_abs (n -ℤ d)) (unsigned_abs d) 1 =
    rest_coprime n d (pos 1) (n -ℤ d) h.coprime (omega (arith, ints)) in
    let turned : unsigned_abs (n -ℤ d) ≡ unsigned_abs (d -ℤ n) = omega (arith, ints) in
    record {
      positive = h.positive;
      num_fits = omega (arith, ints);
      den_fits = h.den_fits;
      coprime = subst (λ (m : ℕ). IsGcd m (unsigned_abs d) 1) turned apart;
    }

-- it is the number minus any floor
pub rest_from_floor : (x : Frac) (n : ℤ) → IsFloor x n →
    int_rem_euclid x.num x.den ≡ x.num -ℤ n *ℤ x.den
rest_from_floor x n h =
    rest_is x.num x.den x.lowest.positive
    ∙ ap (λ q. x.num -ℤ q *ℤ x.den) (same_from_IsFloor x _ n (quotient_is_floor x) h)
