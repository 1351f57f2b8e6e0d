-- Numbers of 128 bits as the code reads them.
use Rattle.std.proofs.Common.{◌≡◌, ◌≢◌, ℕ, ◌<◌, ◌≤◌, ◌^◌, inr, ℤ, pos, unsigned_abs, FitsSigned, to_z, of_z, sym, ap, subst₂, ◌∙◌, arith}
use Rattle.std.specs.Int.{IsGcd}
use Rattle.std.proofs.lemmas.Int.{fits_signed_from_abs, to_z-of_z, to_z_pos}
use Rattle.std.proofs.lemmas.Nat.Gcd.{le_of_dvd}
use mir.Syntax.{w128}
use Rattle.gj_lemmas.specs.Divisors.{gcd_of}
use Rattle.gj_lemmas.proofs.Divisors.{gcd_is_gcd_of, gcd_positive}
use Rattle.gj_lemmas.proofs.Integers.{abs_zero_z}
use Rattle.gj_frac.specs.Fraction.{Fits}

pub fits_width : (z : ℤ) → Fits z → FitsSigned w128 z
fits_width z h = fits_signed_from_abs w128 z h

pub read_fitting : (z : ℤ) → Fits z → to_z w128 (of_z w128 z) ≡ z
read_fitting z h = to_z-of_z w128 z (fits_width z h)

-- the greatest common divisor of two numbers, one of which is small and not 0
pub record IsDivisor (m n : ℤ) (g : ℕ) : Type 0 where
  pub is : g ≡ gcd_of (unsigned_abs m) (unsigned_abs n)
  pub small : g < 2 ^ 127
  pub positive : 0 < g

pub divisor_of : (m n : ℤ) (a b g : ℕ) → Fits n → n ≢ pos 0 → a ≡ unsigned_abs m →
    b ≡ unsigned_abs n → IsGcd a b g →
    IsDivisor m n g
divisor_of m n a b g fits some a_is b_is h =
    let apart : unsigned_abs n ≢ 0 = λ e. some (abs_zero_z n e) in
    let above : 0 < b = omega arith in
    let positive : 0 < g = gcd_positive a b g h (inr above) in
    let at_most : g ≤ b = le_of_dvd above h.1 in record {
      is = gcd_is_gcd_of (unsigned_abs m) (unsigned_abs n) g
          (subst₂ (λ x y. IsGcd x y g) a_is b_is h);
      small = omega arith;
      positive = positive;
    }

pub fits_natural : (g : ℕ) → g < 2 ^ 127 → FitsSigned w128 (pos g)
fits_natural g h = fits_signed_from_abs w128 (pos g) h

pub read_natural : (g : ℕ) → g < 2 ^ 127 → to_z w128 g ≡ pos g
read_natural g h = to_z_pos w128 g h

-- the code compares bits
pub some_from_bits : (x : ℤ) → (of_z w128 x ≡ 0 → ⊥) → x ≢ pos 0
some_from_bits x h e = h (ap (of_z w128) e)

pub zero_from_bits : (x : ℤ) → FitsSigned w128 x → of_z w128 x ≡ 0 → x ≡ pos 0
zero_from_bits x fits e = sym (to_z-of_z w128 x fits) ∙ ap (to_z w128) e
