-- Whole numbers modulo m: sums, products and rests.
use Rattle.std.proofs.Common.{◌≡◌, ℕ, zero, suc, ◌%◌, ◌<◌, ℤ, pos, negsuc, ◌-◌, ◌+ℤ◌, ◌-ℤ◌, ◌*ℤ◌, List, [], ◌∷◌, refl, sym, ap, subst, ◌∙◌, arith}
use Rattle.std.proofs.Math.Nat.{mod-lt, zero-mod}
use Rattle.std.proofs.lemmas.Int.{ints}
use Rattle.gj_lemmas.proofs.Integers.{add_mul_z, sub_mul_z, mul_assoc_z}
use Rattle.gj_lemmas.proofs.Ring.{by_ring, ring}
use Rattle.gj_shape.specs.Elimination.{at_column}
use Rattle.gj_shape.specs.Residues.{residue, residues, IsZeroModulo, IsInvertible}
use Rattle.gj_shape.proofs.ValueLemmas.{congruent_to_remainder}

-- ---- what is 0 modulo m

pub zero_is : (m : ℕ) (x y : ℤ) → x ≡ y → IsZeroModulo m y → IsZeroModulo m x
zero_is m x y e (k, is) = (k, e ∙ is)

pub zero_none : (m : ℕ) → IsZeroModulo m (pos 0)
zero_none m = (pos 0, omega (arith, ints))

pub zero_sum : (m : ℕ) (x y : ℤ) → IsZeroModulo m x → IsZeroModulo m y → IsZeroModulo m (x +ℤ y)
zero_sum m x y (k, e) (l, h) = let both = add_mul_z k l (pos m) in (k +ℤ l, omega (arith, ints))

pub zero_difference : (m : ℕ) (x y : ℤ) → IsZeroModulo m x → IsZeroModulo m y →
    IsZeroModulo m (x -ℤ y)
zero_difference m x y (k, e) (l, h) = let both = sub_mul_z k l (pos m) in
    (k -ℤ l, omega (arith, ints))

pub zero_times : (m : ℕ) (u x : ℤ) → IsZeroModulo m x → IsZeroModulo m (u *ℤ x)
zero_times m u x (k, e) = (u *ℤ k, ap (λ z. u *ℤ z) e ∙ sym (mul_assoc_z u k (pos m)))

-- the first of two numbers whose difference is 0
pub zero_first : (m : ℕ) (x y : ℤ) → IsZeroModulo m (x -ℤ y) → IsZeroModulo m y → IsZeroModulo m x
zero_first m x y apart second =
    zero_is m x ((x -ℤ y) +ℤ y) (omega (arith, ints)) (zero_sum m (x -ℤ y) y apart second)

-- and the second
pub zero_second : (m : ℕ) (x y : ℤ) → IsZeroModulo m (x -ℤ y) → IsZeroModulo m x → IsZeroModulo m y
zero_second m x y apart first =
    zero_is m y (x -ℤ (x -ℤ y)) (omega (arith, ints)) (zero_difference m x (x -ℤ y) first apart)

-- an invertible factor is cancelled
pub cancel_invertible : (m : ℕ) (x v : ℤ) → IsInvertible m x → IsZeroModulo m (x *ℤ v) →
    IsZeroModulo m v
cancel_invertible m x v (u, h) product =
    zero_is m v (u *ℤ (x *ℤ v) -ℤ v *ℤ (u *ℤ x -ℤ pos 1))
    (by_ring (v ∷ u ∷ x ∷ []) (search ring depth 20) refl)
    (zero_difference m (u *ℤ (x *ℤ v)) (v *ℤ (u *ℤ x -ℤ pos 1)) (zero_times m u (x *ℤ v) product)
    (zero_times m v (u *ℤ x -ℤ pos 1) h))

-- ---- rests

pub residue_of_zero : (m : ℕ) → residue m (pos 0) ≡ pos 0
residue_of_zero m = ap pos (zero-mod m)

-- a number and its rest are the same modulo m
pub residue_same : (m : ℕ) (x : ℤ) → 0 < m → IsZeroModulo m (x -ℤ residue m x)
residue_same m x some = let (k, e) = congruent_to_remainder x m some in (k, omega (arith, ints))

-- a rest is a natural number below m
pub residue_below : (m : ℕ) (x : ℤ) → 0 < m → (r : ℕ) × (residue m x ≡ pos r) × (r < m)
residue_below m (pos a) some = (a % m, refl, mod-lt a some)
residue_below m (negsuc a) some = let below = mod-lt a some in (m - 1 - a % m, refl, omega arith)

-- no two natural numbers below m are the same modulo m
pub same_below : (m r s : ℕ) → r < m → s < m → IsZeroModulo m (pos r -ℤ pos s) → r ≡ s
same_below m r s r_low s_low (pos zero, e) = omega (arith, ints)
same_below m r s r_low s_low (pos (suc k), e) = absurd (omega (arith, ints))
same_below m r s r_low s_low (negsuc k, e) = absurd (omega (arith, ints))

-- the rest is the only natural number below m that is the same modulo m
pub residue_only : (m : ℕ) (x : ℤ) (r : ℕ) → r < m → IsZeroModulo m (x -ℤ pos r) →
    residue m x ≡ pos r
residue_only m x r low same =
    let some : 0 < m = omega arith in
    let (s, is, s_low) = residue_below m x some in
    let apart : IsZeroModulo m (x -ℤ pos s) =
    subst (λ (z : ℤ). IsZeroModulo m (x -ℤ z)) is (residue_same m x some) in
    let e : s ≡ r =
    same_below m s r s_low low
    (zero_is m (pos s -ℤ pos r) ((x -ℤ pos r) -ℤ (x -ℤ pos s)) (omega (arith, ints))
    (zero_difference m (x -ℤ pos r) (x -ℤ pos s) same apart)) in
    is ∙ ap pos e

-- numbers that are the same modulo m have one rest
pub residue_of_same : (m : ℕ) (x y : ℤ) → 0 < m → IsZeroModulo m (x -ℤ y) →
    residue m x ≡ residue m y
residue_of_same m x y some h =
    let (r, is, low) = residue_below m y some in
    let apart : IsZeroModulo m (y -ℤ pos r) =
    subst (λ (z : ℤ). IsZeroModulo m (y -ℤ z)) is (residue_same m y some) in
    residue_only m x r low
    (zero_is m (x -ℤ pos r) ((x -ℤ y) +ℤ (y -ℤ pos r)) (omega (arith, ints))
    (zero_sum m (x -ℤ y) (y -ℤ pos r) h apart))
    ∙ sym is

-- ---- a row of rests

pub at_residues : (m : ℕ) (row : List ℤ) (i : ℕ) →
    at_column (residues m row) i ≡ residue m (at_column row i)
at_residues m [] i = sym (residue_of_zero m)
at_residues m (x ∷ row) zero = refl
at_residues m (x ∷ row) (suc i) = at_residues m row i
