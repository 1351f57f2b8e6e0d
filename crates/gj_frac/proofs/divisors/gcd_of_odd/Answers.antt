use Rattle.std.proofs.Common.{◌≡◌, ◌≢◌, ◌<◌, ◌+◌, ◌-◌, ◌%◌, ◌^◌, ◌/◌, ℕ, min, subst, subst₂, ap₂, sym, ⊎_elim, arith, w64}
use Rattle.std.specs.Int.{IsGcd, abs_diff, trailing_zeros}
use Rattle.std.proofs.lemmas.Bool.{cases_lt}
use Rattle.std.proofs.lemmas.Nat.Gcd.{dvd_refl}
use Rattle.gj_frac.proofs.OddParts.{odd_part, from_odd_difference, zeros_of_difference}
use Rattle.gj_frac.proofs.divisors.gcd_of_odd.Goals as goal

differ_by_some : (a b : ℕ) → a ≢ b → 0 < abs_diff a b
differ_by_some a b differ = omega arith

-- the lesser of two numbers, in either order
lesser_is : (a b n : ℕ) → n ≡ min b a → n ≡ min a b
lesser_is a b n is = omega arith

lesser_odd : (a b n : ℕ) → a % 2 ≡ 1 → b % 2 ≡ 1 → n ≡ min a b → n % 2 ≡ 1
lesser_odd a b n a_odd b_odd least = ⊎_elim
    (λ below. let is : n ≡ a = omega arith in subst (λ m. m % 2 ≡ 1) (sym is) a_odd)
    (λ above. let is : n ≡ b = omega arith in subst (λ m. m % 2 ≡ 1) (sym is) b_odd)
    (cases_lt a b)

pub loop-first-preserved : goal.loop-first-preserved
loop-first-preserved c =
    let held = c.loop-first.invariant in
    let f = c.loop-first.first in
    let s = c.loop-first.second in
    let some = differ_by_some f s c.loop-first-test.true in
    let below : abs_diff f s < 2 ^ 64 = omega arith in
    let zeros = zeros_of_difference f s (omega arith) (omega arith) in
    let quotient : c.abs_diff-size.result / 2 ^ trailing_zeros w64 ((s + (2 ^ 64 - f)) % 2 ^ 64) ≡
    abs_diff f s / 2 ^ trailing_zeros w64 (abs_diff f s) =
    ap₂ (λ m n. m / 2 ^ n) c.abs_diff-size.ensures zeros in
    record {
      first = subst (λ n. n % 2 ≡ 1) (sym quotient) (odd_part (abs_diff f s) some below).0;
      second = lesser_odd f s c.min-second.result held.first held.second
          (lesser_is f s _ c.min-second.ensures);
      divisors = λ g h. held.divisors g (from_odd_difference f s g held.first held.second some below
          (subst₂ (λ m n. IsGcd m n g) quotient (lesser_is f s _ c.min-second.ensures) h));
    }

pub returns : goal.returns
returns c =
    let same : c.loop-first.first ≡ c.loop-first.second = omega arith in
    c.loop-first.invariant.divisors _
    (subst (λ n. IsGcd c.loop-first.first n c.loop-first.first) same
    (dvd_refl _, dvd_refl _, λ d p q. p))
