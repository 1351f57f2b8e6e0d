-- What determines a fraction.
use Rattle.std.proofs.Common.{◌≡◌, ◌≢◌, ℕ, ℤ, pos, neg_ℤ, ◌*ℤ◌, ◌<ℤ◌, unsigned_abs, sym, ap, ◌∙◌, arith}
use Rattle.std.proofs.lemmas.Int.{ints}
use Rattle.std.specs.Int.{IsGcd}
use Rattle.gj_frac.specs.declared.Frac.{Frac}
use Rattle.gj_frac.specs.Fraction.{IsRatio}
pub use Rattle.gj_frac.specs.SameParts.{ratio, same_parts_same, same_value_same_parts, same_value_same}
use Rattle.gj_lemmas.proofs.Divisors.{same_ratio}
use Rattle.gj_lemmas.proofs.Integers.{mul_cancel_right_z, abs_positive_z, neg_mul_z, positive_some_z}
use Rattle.gj_lemmas.proofs.Ratios.{ratio_along}

-- n/d has no other value than m/e, so what is n/d is m/e
pub is_along : (x : Frac) (n d m e : ℤ) → unsigned_abs d ≢ 0 → IsRatio x n d → n *ℤ e ≡ m *ℤ d →
    IsRatio x m e
is_along x = ratio_along x.num x.den

-- n/d is one fraction
pub same_from_is : (x y : Frac) (n d : ℤ) → unsigned_abs d ≢ 0 → IsRatio x n d → IsRatio y n d →
    x ≡ y
same_from_is x y n d some h k = same_value_same x y (is_along x n d y.num y.den some h (sym k))

-- its parts, if n and d are in lowest terms and d is positive
pub parts_from_is : (x : Frac) (n d : ℤ) → pos 0 <ℤ d → IsGcd (unsigned_abs n) (unsigned_abs d) 1 →
    IsRatio x n d →
    (x.num ≡ n) × (x.den ≡ d)
parts_from_is x n d some h k =
    same_ratio x.num x.den n d x.lowest.coprime h x.lowest.positive some k

-- a fraction is k/q for one k at most
pub one_place : (x : Frac) (q k m : ℕ) → IsRatio x (pos k) (pos q) → IsRatio x (pos m) (pos q) →
    k ≡ m
one_place x q k m a b =
    let some = abs_positive_z x.den x.lowest.positive in
    let same : pos k ≡ pos m = mul_cancel_right_z (pos k) (pos m) x.den (sym a ∙ b) (omega arith) in
    omega (arith, ints, same)

-- what has the value of x with its sign turned is -n/d, if x is n/d
pub negation_is : (x z : Frac) (n d : ℤ) → z.num *ℤ x.den ≡ neg_ℤ x.num *ℤ z.den → IsRatio x n d →
    IsRatio z (neg_ℤ n) d
negation_is x z n d turned is =
    ratio_along z.num z.den (neg_ℤ x.num) x.den (neg_ℤ n) d
    (positive_some_z x.den x.lowest.positive) turned
    (neg_mul_z x.num d ∙ ap neg_ℤ is ∙ sym (neg_mul_z n x.den))
