-- The product of two fractions of which no number but 1 divides a numerator and the other's
-- denominator.
use Rattle.std.proofs.Common.{◌≡◌, ◌≢◌, ℕ, ◌*◌, ℤ, ◌*ℤ◌, unsigned_abs, sym, ap, subst, subst₂, ◌∙◌}
use Rattle.std.proofs.Math.Nat.{mul_comm, dvd-mul_right}
use Rattle.std.proofs.lemmas.Int.{unsigned_abs-mul}
use Rattle.std.proofs.lemmas.Nat.Gcd.{IsGcd-swap}
use Rattle.std.specs.Int.{IsGcd, ◌∣◌}
use Rattle.gj_frac.specs.declared.Frac.{Frac}
use Rattle.gj_frac.specs.Fraction.{Fits, IsRatio, SameValue, fraction_of, product_of}
use Rattle.gj_frac.specs.Fits.{FitsProduct}
use Rattle.gj_lemmas.proofs.Divisors.{gauss, coprime_product, coprime_divisor}
use Rattle.gj_lemmas.proofs.Integers.{mul_comm_z, mul_positive_z, mul_some_z, positive_some_z}
use Rattle.gj_lemmas.proofs.Ratios.{ratio_product}
use Rattle.gj_frac.proofs.OneDenominator.{denominator_divides_each}
use Rattle.gj_frac.proofs.SameValues.{is_along, parts_from_is}

-- ---- lowest terms

-- two products have only 1 in common if each two of their factors do
coprime_products : (a b c d : ℕ) → IsGcd a b 1 → IsGcd a d 1 → IsGcd c b 1 → IsGcd c d 1 →
    IsGcd (a * c) (b * d) 1
coprime_products a b c d ab ad cb cd =
    coprime_product (a * c) b d
    (IsGcd-swap b (a * c) 1 (coprime_product b a c (IsGcd-swap a b 1 ab) (IsGcd-swap c b 1 cb)))
    (IsGcd-swap d (a * c) 1 (coprime_product d a c (IsGcd-swap a d 1 ad) (IsGcd-swap c d 1 cd)))

-- the two products of the parts are in lowest terms
pub product_lowest : (x y : Frac) → IsGcd (unsigned_abs x.num) (unsigned_abs y.den) 1 →
    IsGcd (unsigned_abs y.num) (unsigned_abs x.den) 1 →
    IsGcd (unsigned_abs (x.num *ℤ y.num)) (unsigned_abs (x.den *ℤ y.den)) 1
product_lowest x y h k =
    subst₂ (λ (m n : ℕ). IsGcd m n 1) (sym (unsigned_abs-mul x.num y.num))
    (sym (unsigned_abs-mul x.den y.den))
    (coprime_products (unsigned_abs x.num) (unsigned_abs x.den) (unsigned_abs y.num)
    (unsigned_abs y.den) x.lowest.coprime h k y.lowest.coprime)

-- so they are the parts of each fraction of the product's value
pub product_parts : (x y z : Frac) → IsGcd (unsigned_abs x.num) (unsigned_abs y.den) 1 →
    IsGcd (unsigned_abs y.num) (unsigned_abs x.den) 1 →
    SameValue (fraction_of z) (product_of (fraction_of x) (fraction_of y)) →
    (z.num ≡ x.num *ℤ y.num) × (z.den ≡ x.den *ℤ y.den)
product_parts x y z h k same =
    parts_from_is z (x.num *ℤ y.num) (x.den *ℤ y.den)
    (mul_positive_z x.den y.den x.lowest.positive y.lowest.positive)
    (product_lowest x y h k) same

-- and if the product fits, they fit
pub numerators_fit : (x y : Frac) → IsGcd (unsigned_abs x.num) (unsigned_abs y.den) 1 →
    IsGcd (unsigned_abs y.num) (unsigned_abs x.den) 1 → FitsProduct x y → Fits (x.num *ℤ y.num)
numerators_fit x y h k fits =
    subst Fits ((product_parts x y fits.0 h k fits.1).0) fits.0.lowest.num_fits

pub denominators_fit : (x y : Frac) → IsGcd (unsigned_abs x.num) (unsigned_abs y.den) 1 →
    IsGcd (unsigned_abs y.num) (unsigned_abs x.den) 1 → FitsProduct x y → Fits (x.den *ℤ y.den)
denominators_fit x y h k fits =
    subst Fits ((product_parts x y fits.0 h k fits.1).1) fits.0.lowest.den_fits

-- the product of two denominators is not 0
pub denominators_some : (x y : Frac) → unsigned_abs (x.den *ℤ y.den) ≢ 0
denominators_some x y =
    positive_some_z (x.den *ℤ y.den)
    (mul_positive_z x.den y.den x.lowest.positive y.lowest.positive)

-- the numerator in lowest terms divides each numerator
numerator_divides_each : (x : Frac) (n d : ℤ) → IsRatio x n d → unsigned_abs x.num ∣ unsigned_abs n
numerator_divides_each x n d h =
    let sizes : unsigned_abs x.num * unsigned_abs d ≡ unsigned_abs x.den * unsigned_abs n =
    sym (unsigned_abs-mul x.num d) ∙ ap unsigned_abs h ∙ unsigned_abs-mul n x.den
    ∙ mul_comm (unsigned_abs n) (unsigned_abs x.den) in
    gauss (unsigned_abs x.num) (unsigned_abs x.den) (unsigned_abs n) x.lowest.coprime
    (subst (λ (m : ℕ). unsigned_abs x.num ∣ m) sizes
    (dvd-mul_right (unsigned_abs x.num) (unsigned_abs d)))

-- if x is n/m and y is k/l, and n and l have only 1 in common, so have the numerator of x and the
-- denominator of y
pub crosswise_coprime : (x y : Frac) (n m k l : ℤ) → IsRatio x n m → IsRatio y k l →
    IsGcd (unsigned_abs n) (unsigned_abs l) 1 → IsGcd (unsigned_abs x.num) (unsigned_abs y.den) 1
crosswise_coprime x y n m k l x_is y_is h =
    let above : IsGcd (unsigned_abs x.num) (unsigned_abs l) 1 =
    coprime_divisor _ _ _ h (numerator_divides_each x n m x_is) in
    IsGcd-swap _ _ _ (coprime_divisor _ _ _ (IsGcd-swap _ _ _ above)
    (denominator_divides_each y k l y_is))

-- ---- values

-- x is n/m and y is k/l, so their products by the parts of each are equal
crossed_products : (x y : Frac) (n m k l : ℤ) → IsRatio x n m → IsRatio y k l →
    (x.num *ℤ y.num) *ℤ (l *ℤ m) ≡ (n *ℤ k) *ℤ (x.den *ℤ y.den)
crossed_products x y n m k l x_is y_is =
    ap (λ z. (x.num *ℤ y.num) *ℤ z) (mul_comm_z l m)
    ∙ ratio_product x.num x.den y.num y.den n m k l x_is y_is

-- what is the product of x and y is the product of n/m and k/l
pub product_is_along : (x y z : Frac) (n m k l : ℤ) → IsRatio x n m → IsRatio y k l →
    SameValue (fraction_of z) (product_of (fraction_of x) (fraction_of y)) →
    IsRatio z (n *ℤ k) (l *ℤ m)
product_is_along x y z n m k l x_is y_is h =
    is_along z (x.num *ℤ y.num) (x.den *ℤ y.den) (n *ℤ k) (l *ℤ m) (denominators_some x y) h
    (crossed_products x y n m k l x_is y_is)

-- and the other way round
pub product_fits : (x y z : Frac) (n m k l : ℤ) → IsRatio x n m → IsRatio y k l →
    unsigned_abs l ≢ 0 →
    unsigned_abs m ≢ 0 → IsRatio z (n *ℤ k) (l *ℤ m) → FitsProduct x y
product_fits x y z n m k l x_is y_is l_some m_some h = (
  z,
  is_along z (n *ℤ k) (l *ℤ m) (x.num *ℤ y.num) (x.den *ℤ y.den)
      (mul_some_z l m l_some m_some) h (sym (crossed_products x y n m k l x_is y_is)),
)
