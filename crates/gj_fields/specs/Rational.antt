-- Rational numbers without bound: a top over a bottom above 0 in lowest terms, so that equal values
-- are one number (the usual ones).
use Rattle.std.proofs.Common.{◌≡◌, ◌<◌, inr, ℤ, pos, negsuc, ◌+ℤ◌, ◌*ℤ◌, ◌<ℤ◌, ◌≤ℤ◌, unsigned_abs, int_div, sym, ap, ◌∙◌, arith}
use Rattle.std.proofs.lemmas.Int.{ints}
use Rattle.std.proofs.lemmas.Nat.Gcd.{IsGcd-swap}
use Rattle.std.proofs.Math.Nat.{one-dvd}
use Rattle.std.specs.Int.{IsGcd}
use Rattle.gj_frac.specs.declared.Frac.{Frac}
use Rattle.gj_frac.proofs.Reduced.{quotient_of_divisor, coprime_signed_quotients}
use Rattle.gj_lemmas.specs.Divisors.{gcd_of}
use Rattle.gj_lemmas.proofs.Divisors.{gcd_of_is, gcd_positive}
use Rattle.gj_lemmas.proofs.Integers.{abs_positive_z, mul_assoc_z, mul_comm_z, mul_lt_cancel_right_z, mul_positive_z}

-- a top over a bottom above 0, with no common divisor but 1
pub record IsReduced (top bottom : ℤ) : Type 0 where
  pub positive : pos 0 <ℤ bottom
  pub coprime : IsGcd (unsigned_abs top) (unsigned_abs bottom) 1

pub record Rational : Type 0 where
  pub top : ℤ
  pub bottom : ℤ
  pub reduced : IsReduced top bottom

-- n/d in lowest terms
pub reduced : (n d : ℤ) → pos 0 <ℤ d → (r : Rational) × (r.top *ℤ d ≡ n *ℤ r.bottom)
reduced n d some =
    let g = gcd_of (unsigned_abs n) (unsigned_abs d) in
    let h = gcd_of_is (unsigned_abs n) (unsigned_abs d) in
    let g_some : 0 < g = gcd_positive _ _ g h (inr (abs_positive_z d some)) in
    let p = int_div n (pos g) in
    let q = int_div d (pos g) in
    let p_is : p *ℤ pos g ≡ n = quotient_of_divisor n (pos g) h.0 in
    let q_is : q *ℤ pos g ≡ d = quotient_of_divisor d (pos g) h.1 in
    let above : (pos 0 *ℤ pos g) <ℤ (q *ℤ pos g) = omega (arith, ints) in (
      record {
        top = p;
        bottom = q;
        reduced = record {
          positive = mul_lt_cancel_right_z (pos 0) q (pos g) (omega (arith, ints)) above;
          coprime = coprime_signed_quotients n d (pos g) p q h g_some p_is q_is;
        };
      },
      ap (λ z. p *ℤ z) (sym q_is) ∙ ap (λ z. p *ℤ z) (mul_comm_z q (pos g))
          ∙ sym (mul_assoc_z p (pos g) q) ∙ ap (λ z. z *ℤ q) p_is,
    )

unfoldable pub over : (n d : ℤ) → pos 0 <ℤ d → Rational
over n d some = (reduced n d some).0

-- a whole number
pub over_one : (z : ℤ) → IsReduced z (pos 1)
over_one z = record {
  positive = omega (arith, ints);
  coprime = IsGcd-swap _ _ _ (one-dvd 1, one-dvd (unsigned_abs z), λ d h k. h);
}

unfoldable pub whole : ℤ → Rational
whole z = record { top = z; bottom = pos 1; reduced = over_one z }

infixl 6 ◌+ℚ◌
unfoldable pub ◌+ℚ◌ : Rational → Rational → Rational
x +ℚ y = over (x.top *ℤ y.bottom +ℤ y.top *ℤ x.bottom) (x.bottom *ℤ y.bottom)
    (mul_positive_z x.bottom y.bottom x.reduced.positive y.reduced.positive)

infixl 7 ◌*ℚ◌
unfoldable pub ◌*ℚ◌ : Rational → Rational → Rational
x *ℚ y = over (x.top *ℤ y.top) (x.bottom *ℤ y.bottom)
    (mul_positive_z x.bottom y.bottom x.reduced.positive y.reduced.positive)

abbrev pub neg_ℚ : Rational → Rational
neg_ℚ x = whole (negsuc 0) *ℚ x

infixl 6 ◌-ℚ◌
abbrev pub ◌-ℚ◌ : Rational → Rational → Rational
x -ℚ y = x +ℚ neg_ℚ y

-- x is at most y
infix 50 ◌≤ℚ◌
pub record ◌≤ℚ◌ (x y : Rational) : Type 0 where
  pub crosswise : (x.top *ℤ y.bottom) ≤ℤ (y.top *ℤ x.bottom)

-- x is a whole number
abbrev pub IsWholeNumber : Rational → Type 0
IsWholeNumber x = (z : ℤ) × (x ≡ whole z)

-- the number that a `Frac` is
abbrev pub rational : Frac → Rational
rational x = record {
  top = x.num;
  bottom = x.den;
  reduced =
      record { positive = x.lowest.positive; coprime = x.lowest.coprime };
}
