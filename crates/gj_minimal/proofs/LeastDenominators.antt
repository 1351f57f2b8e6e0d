-- The least h at which (h - n) limit + total is negative, if the limit is.
use Rattle.std.proofs.Common.{◌≡◌, ℕ, ◌+◌, ◌-◌, ◌*◌, ◌/◌, ◌<◌, ◌≤◌, ℤ, pos, negsuc, ◌+ℤ◌, ◌-ℤ◌, ◌*ℤ◌, ◌<ℤ◌, ◌≤ℤ◌, unsigned_abs, sym, subst, arith}
use Rattle.std.proofs.Math.Nat.{mul_comm, lt-mul-div-succ, le-div_iff_mul-le}
use Rattle.std.proofs.lemmas.Int.{ints}
use Rattle.gj_shape.specs.FirstViolation.{IsLeastFrom}

-- k times a negative limit, and a total that is not negative, by their absolute values
sum_is : (k : ℕ) (limit total : ℤ) → limit <ℤ pos 0 → pos 0 ≤ℤ total →
    pos k *ℤ limit +ℤ total ≡ pos (unsigned_abs total) -ℤ pos (k * unsigned_abs limit)
sum_is k (pos m) total negative positive = absurd (omega (arith, ints))
sum_is k (negsuc m) total negative positive = omega (arith, ints)

-- it is negative if the product is greater than the total
negative_beyond : (k : ℕ) (limit total : ℤ) → limit <ℤ pos 0 → pos 0 ≤ℤ total →
    unsigned_abs total < k * unsigned_abs limit → (pos k *ℤ limit +ℤ total) <ℤ pos 0
negative_beyond k limit total negative positive h =
    subst (λ z. z <ℤ pos 0) (sym (sum_is k limit total negative positive)) (omega (arith, ints, h))

-- and only there
beyond_negative : (k : ℕ) (limit total : ℤ) → limit <ℤ pos 0 → pos 0 ≤ℤ total →
    (pos k *ℤ limit +ℤ total) <ℤ pos 0 → unsigned_abs total < k * unsigned_abs limit
beyond_negative k limit total negative positive h =
    let same = subst (λ z. z <ℤ pos 0) (sum_is k limit total negative positive) h in
    omega (arith, ints, same)

-- one more than the quotient is the least number of steps that is enough
pub least_from_quotient : (n : ℕ) (limit total : ℤ) → limit <ℤ pos 0 → pos 0 ≤ℤ total →
    IsLeastFrom n (λ h. (pos (h - n) *ℤ limit +ℤ total) <ℤ pos 0)
    (n + unsigned_abs total / unsigned_abs limit + 1)
least_from_quotient n limit total negative positive =
    let t = unsigned_abs total in
    let d = unsigned_abs limit in
    let some : 0 < unsigned_abs limit = omega (arith, ints) in
    let beyond : t < (t / d + 1) * d =
    subst (λ (n : ℕ). t < n) (mul_comm d (t / d + 1)) (lt-mul-div-succ t some) in
    let steps : unsigned_abs total / unsigned_abs limit + 1
    ≡ n + unsigned_abs total / unsigned_abs limit + 1 - n
    = omega arith in
    record {
      from = omega arith;
      holds = subst (λ (k : ℕ). (pos k *ℤ limit +ℤ total) <ℤ pos 0) steps
          (negative_beyond (t / d + 1) limit total negative positive beyond);
      least = λ k from below h.
          let within : (k - n) * d ≤ t = (le-div_iff_mul-le some).0 (omega arith) in
          let many = beyond_negative (k - n) limit total negative positive h in
          omega arith;
    }
