-- Two fractions over one denominator: their common denominator divides it, so what fits there fits
-- over the common denominator.
use Rattle.std.proofs.Common.{◌≡◌, ◌≢◌, ℕ, ◌*◌, ◌/◌, ◌≤◌, ℤ, pos, ◌+ℤ◌, ◌-ℤ◌, ◌*ℤ◌, unsigned_abs, int_div, inl, sym, ap, subst, ◌∙◌, arith}
use Rattle.std.proofs.Math.Nat.{dvd-mul_left, div-mul_cancel, le-mul_of_pos_right, mul_comm, pos_of_ne-zero}
use Rattle.std.proofs.lemmas.Int.{unsigned_abs-mul}
use Rattle.std.proofs.lemmas.Nat.Gcd.{IsGcd-swap}
use Rattle.std.specs.Int.{◌∣◌}
use Rattle.gj_frac.specs.declared.Frac.{Frac}
use Rattle.gj_frac.specs.Fraction.{IsRatio, Fits}
use Rattle.gj_frac.specs.Fits.{IsDenominatorGcd, scaled_numerator, common_denominator, FitsSum, FitsDifference, FitsOverOneDenominator}
use Rattle.gj_lemmas.proofs.Integers.{mul_assoc_z, mul_left_comm_z, mul_add_z, mul_sub_z, mul_cancel_right_z, abs_add_z, abs_sub_z, abs_positive_z}
use Rattle.gj_lemmas.proofs.Divisors.{gauss, gcd_positive, lcm_from_gcd}
use Rattle.gj_frac.proofs.Reduced.{quotient_of_divisor}
use Rattle.gj_frac.proofs.Sums.{factor_some, first_is, second_is}

-- the denominator of x divides each denominator that x has
pub denominator_divides_each : (x : Frac) (n d : ℤ) → IsRatio x n d →
    unsigned_abs x.den ∣ unsigned_abs d
denominator_divides_each x n d h =
    let sizes = sym (unsigned_abs-mul x.num d) ∙ ap unsigned_abs h ∙ unsigned_abs-mul n x.den in
    gauss (unsigned_abs x.den) (unsigned_abs x.num) (unsigned_abs d)
    (IsGcd-swap _ _ _ x.lowest.coprime)
    (subst (λ (m : ℕ). unsigned_abs x.den ∣ m) (sym sizes)
    (dvd-mul_left (unsigned_abs x.den) (unsigned_abs n)))

-- the common denominator of two fractions divides each denominator that both have
pub common_divides : (x y : Frac) (g : ℕ) (n m d : ℤ) → IsDenominatorGcd x y g → IsRatio x n d →
    IsRatio y m d →
    unsigned_abs x.den / g * unsigned_abs y.den ∣ unsigned_abs d
common_divides x y g n m d h x_is y_is =
    let some = gcd_positive _ _ g h (inl (abs_positive_z x.den x.lowest.positive)) in
    (lcm_from_gcd _ _ g (unsigned_abs x.den / g) h (sym (div-mul_cancel g h.0)) some).2
    (unsigned_abs d)
    (denominator_divides_each x n d x_is) (denominator_divides_each y m d y_is)

-- if x is s/c and n/d, and d is c times k, n is s times k
multiple_of : (x : Frac) (s c n d k : ℤ) → IsRatio x s c → IsRatio x n d → k *ℤ c ≡ d → k *ℤ s ≡ n
multiple_of x s c n d k over h d_is =
    let some = abs_positive_z x.den x.lowest.positive in
    let same : (k *ℤ s) *ℤ x.den ≡ n *ℤ x.den =
    mul_assoc_z k s x.den ∙ ap (λ z. k *ℤ z) (sym over) ∙ mul_left_comm_z k x.num c
    ∙ ap (λ z. x.num *ℤ z) d_is ∙ h in
    mul_cancel_right_z (k *ℤ s) n x.den same (omega arith)

-- a factor is no larger than a product that is not 0 by the other
factor_within : (k s n : ℤ) → unsigned_abs k ≢ 0 → k *ℤ s ≡ n → unsigned_abs s ≤ unsigned_abs n
factor_within k s n some is =
    let size = sym (unsigned_abs-mul k s) ∙ ap unsigned_abs is in
    let turned = mul_comm (unsigned_abs k) (unsigned_abs s) in
    let larger : unsigned_abs s ≤ unsigned_abs s * unsigned_abs k =
    le-mul_of_pos_right (unsigned_abs s) (pos_of_ne-zero some) in
    omega arith

-- over the denominator d of both fractions stands one multiple of what stands over the common
-- denominator
pub record MultipliedBy (x y : Frac) (g : ℕ) (n m d k : ℤ) : Type 0 where
  pub some : unsigned_abs k ≢ 0
  pub first : k *ℤ scaled_numerator x y g ≡ n
  pub second : k *ℤ scaled_numerator y x g ≡ m
  pub bottom : k *ℤ common_denominator x y g ≡ d

pub multiplier : (x y : Frac) (g : ℕ) (n m d : ℤ) → IsDenominatorGcd x y g → IsRatio x n d →
    IsRatio y m d →
    unsigned_abs d ≢ 0 → (k : ℤ) × MultipliedBy x y g n m d k
multiplier x y g n m d h x_is y_is some =
    let c = common_denominator x y g in
    let size = unsigned_abs-mul (pos (unsigned_abs x.den / g)) y.den in
    let k = int_div d c in
    let bottom : k *ℤ c ≡ d =
    quotient_of_divisor d c
    (subst (λ (s : ℕ). s ∣ unsigned_abs d) (sym size)
    (common_divides x y g n m d h x_is y_is)) in (
      k,
      record {
        some = factor_some k c d bottom some;
        first = multiple_of x (scaled_numerator x y g) c n d k (first_is x y g h) x_is bottom;
        second = multiple_of y (scaled_numerator y x g) c m d k (second_is x y g) y_is bottom;
        bottom = bottom;
      },
    )

-- two fractions over one denominator can be added if their parts and the sum of the numerators fit
-- there
pub fits_sum_over : (x y : Frac) (n m d : ℤ) → IsRatio x n d → IsRatio y m d → unsigned_abs d ≢ 0 →
    Fits d →
    Fits n → Fits m → Fits (n +ℤ m) → FitsSum x y
fits_sum_over x y n m d x_is y_is some d_fits n_fits m_fits total_fits g h =
    let (k, by) = multiplier x y g n m d h x_is y_is some in
    let total = mul_add_z k (scaled_numerator x y g) (scaled_numerator y x g)
    ∙ (λ i. by.first i +ℤ by.second i) in
    let first_within = factor_within k _ n by.some by.first in
    let second_within = factor_within k _ m by.some by.second in
    let total_within = factor_within k _ (n +ℤ m) by.some total in
    let bottom_within = factor_within k _ d by.some by.bottom in
    record { first = omega arith; second = omega arith; total = omega arith; bottom = omega arith }

-- they can be subtracted if their parts and the difference of the numerators fit
pub fits_difference_over : (x y : Frac) (n m d : ℤ) → IsRatio x n d → IsRatio y m d →
    unsigned_abs d ≢ 0 → Fits d →
    Fits n → Fits m → Fits (n -ℤ m) → FitsDifference x y
fits_difference_over x y n m d x_is y_is some d_fits n_fits m_fits difference_fits g h =
    let (k, by) = multiplier x y g n m d h x_is y_is some in
    let difference = mul_sub_z k (scaled_numerator x y g) (scaled_numerator y x g)
    ∙ (λ i. by.first i -ℤ by.second i) in
    let first_within = factor_within k _ n by.some by.first in
    let second_within = factor_within k _ m by.some by.second in
    let difference_within = factor_within k _ (n -ℤ m) by.some difference in
    let bottom_within = factor_within k _ d by.some by.bottom in
    record {
      first = omega arith;
      second = omega arith;
      difference = omega arith;
      bottom =
          omega arith;
    }

-- both, if all three numbers are at most 2^125
pub over_one_denominator : FitsOverOneDenominator
over_one_denominator x y n m d x_is y_is some d_small n_small m_small =
    let total = abs_add_z n m in
    let difference = abs_sub_z n m in (
      fits_sum_over x y n m d x_is y_is some (omega arith) (omega arith) (omega arith)
          (omega arith),
      fits_difference_over x y n m d x_is y_is some (omega arith) (omega arith) (omega arith)
          (omega arith),
    )
