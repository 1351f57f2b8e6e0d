-- Fractions by their parts, and points that differ by a whole number.
use Rattle.std.proofs.Common.{◌≡◌, ℕ, ◌+◌, ◌*◌, ◌/◌, ◌<◌, ℤ, pos, unsigned_abs, ◌*ℤ◌, ◌<ℤ◌, refl, sym, subst, ap, ap₂, arith}
use Rattle.std.proofs.lemmas.Int.{ints}
use Rattle.gj_lemmas.proofs.Integers.{mul_positive_z, pos_abs_z}
use Rattle.gj_lemmas.proofs.Quotients.{same_remainder, from_same_remainder}
use Rattle.gj_frac.specs.Fraction.{Fraction, SameValue, sum_of}
use Rattle.gj_valid.specs.ValidFunctions.{over, IsNonnegative, IsSamePoint}
use Rattle.gj_valid.proofs.PartFunctions.{SamePlace}
use Rattle.gj_valid.proofs.OverOneBottom.{same_sums_of, same_trans}

-- a fraction of at least 0 has whole numbers as its parts
pub parts_are : (x : Fraction) → IsNonnegative x → over (unsigned_abs x.top) (unsigned_abs x.bottom)
    ≡ x
parts_are x h =
    let make : ℤ → ℤ → Fraction = λ t b. record { top = t; bottom = b } in
    ap₂ make (pos_abs_z x.top h.0) (pos_abs_z x.bottom (omega (arith, ints, h.1)))

pub over_nonnegative : (n d : ℕ) → 0 < d → IsNonnegative (over n d)
over_nonnegative n d some = (omega (arith, ints), omega (arith, ints))

pub sum_nonnegative : (x y : Fraction) → IsNonnegative x → IsNonnegative y →
    IsNonnegative (sum_of x y)
sum_nonnegative x y h l =
    subst IsNonnegative (ap₂ sum_of (parts_are x h) (parts_are y l))
    (let bottom = mul_positive_z x.bottom y.bottom h.1 l.1 in
    let a = pos_abs_z x.bottom (omega (arith, ints, h.1)) in
    let b = pos_abs_z y.bottom (omega (arith, ints, l.1)) in
    (omega (arith, ints), subst (λ (z : ℤ). pos 0 <ℤ z) (sym (ap₂ (λ s t. s *ℤ t) a b)) bottom))

pub same_point : (n d m e : ℕ) → SamePlace n d m e → IsSamePoint (over n d) (over m e)
same_point n d m e same =
    let x = m * d / (d * e) in
    let y = n * e / (d * e) in
    let whole : n * e + x * (d * e) ≡ m * d + y * (d * e) =
    from_same_remainder (n * e) (m * d) (d * e) same in
    let parts : (n * 1 + x * d) * (e * 1) ≡ (m * 1 + y * e) * (d * 1) = omega arith in
    (x, y, ap pos parts)

pub same_place : (n d m e : ℕ) → IsSamePoint (over n d) (over m e) → SamePlace n d m e
same_place n d m e same =
    let (x, y, parts) = same in
    let whole : (n * 1 + x * d) * (e * 1) ≡ (m * 1 + y * e) * (d * 1) =
    omega (arith, ints, parts) in
    same_remainder (n * e) (m * d) x y (d * e) (omega arith)

pub same_point_sym : (x y : Fraction) → IsSamePoint x y → IsSamePoint y x
same_point_sym x y same = (same.1, same.0, sym same.2)

-- a fraction of one value is one point
pub same_point_along : (x y z : Fraction) → pos 0 <ℤ x.bottom → pos 0 <ℤ y.bottom →
    pos 0 <ℤ z.bottom → SameValue x y →
    IsSamePoint y z → IsSamePoint x z
same_point_along x y z x_some y_some z_some value same =
    let (n, m, parts) = same in (
      n,
      m,
      same_trans (sum_of x (over n 1)) (sum_of y (over n 1)) (sum_of z (over m 1))
          (mul_positive_z y.bottom (pos 1) y_some (omega (arith, ints)))
          (mul_positive_z z.bottom (pos 1) z_some (omega (arith, ints)))
          (same_sums_of x (over n 1) y (over n 1) y_some (omega (arith, ints)) value refl) parts,
    )

pub same_value_point : (x y : Fraction) → pos 0 <ℤ x.bottom → pos 0 <ℤ y.bottom → SameValue x y →
    IsSamePoint x y
same_value_point x y x_some y_some value =
    same_point_along x y y x_some y_some y_some value (0, 0, refl)
