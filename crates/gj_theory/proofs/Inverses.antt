-- Inverses modulo m: which numbers have one, and that none has two.
use Rattle.std.proofs.Common.{◌≡◌, ◌≢◌, ℕ, zero, suc, ◌/◌, ◌%◌, ◌<◌, ◌≤◌, ◌↔◌, Bool, true, false, cond, Option, None, Some, ℤ, pos, negsuc, ◌+ℤ◌, ◌-ℤ◌, ◌*ℤ◌, neg_ℤ, List, [], ◌∷◌, get_or, unsigned_abs, refl, sym, ap, subst, ◌∙◌, arith}
use Rattle.std.specs.Prelude.{All, IfSome}
use Rattle.std.specs.Int.{IsGcd, ◌∣◌}
use Rattle.std.specs.List.{range_with_len, find}
use Rattle.std.specs.Ordering.{int_eq}
use Rattle.std.proofs.Math.Nat.{mul_comm, one-dvd}
use Rattle.std.proofs.lemmas.Bool.Decides.{Decides-int_eq, not_from_Decides}
use Rattle.std.proofs.lemmas.Int.{ints, unsigned_abs-mul}
use Rattle.std.proofs.lemmas.List.Elements.{All-nil, All-cons, All-get_or}
use Rattle.std.proofs.lemmas.List.FromFn.{length-range_with_len, get_or-range_with_len}
use Rattle.std.proofs.lemmas.Nat.{div-add-mod'}
use Rattle.gj_lemmas.proofs.Divisors.{cofactor, divides_product, gcd_is_gcd_of}
use Rattle.gj_lemmas.proofs.Integers.{neg_mul_z}
use Rattle.gj_lemmas.proofs.Lists.{All-range}
use Rattle.gj_lemmas.proofs.Ring.{by_ring, ring}
use Rattle.gj_lemmas.specs.Divisors.{gcd_of, gcd_within}
use Rattle.gj_shape.specs.Residues.{residue, inverse, IsZeroModulo}
use Rattle.gj_theory.proofs.Triangular.{find_has}
use Rattle.gj_theory.proofs.Modulo.{zero_is, zero_difference, zero_times, residue_same, residue_below, residue_only, same_below}

-- ---- the greatest common divisor is a sum of multiples

-- d is a sum of multiples of a and b
record IsCombined (a b d : ℕ) : Type 0 where
  pub s : ℤ
  pub t : ℤ
  pub is : pos d ≡ s *ℤ pos a +ℤ t *ℤ pos b

combined_zero : (a : ℕ) → IsCombined a 0 a
combined_zero a = record { s = pos 1; t = pos 0; is = omega (arith, ints) }

-- of b and the rest of a
combined_step : (a b d : ℕ) → IsCombined b (a % b) d → IsCombined a b d
combined_step a b d h = record {
  s = h.t;
  t = h.s -ℤ h.t *ℤ pos (a / b);
  is = h.is ∙ ap (λ z. h.s *ℤ pos b +ℤ h.t *ℤ z) rest
      ∙ regroup h.s h.t (pos b) (pos a) (pos (a / b));
}
  where
    rest : pos (a % b) ≡ pos a -ℤ pos (a / b) *ℤ pos b
    rest = let split = div-add-mod' a b in omega (arith, ints)

    regroup : (s t b a q : ℤ) → s *ℤ b +ℤ t *ℤ (a -ℤ q *ℤ b) ≡ t *ℤ a +ℤ (s -ℤ t *ℤ q) *ℤ b
    regroup s t b a q = by_ring (s ∷ t ∷ b ∷ a ∷ q ∷ []) (search ring depth 20) refl

combined_within : (steps a b : ℕ) → b ≤ steps → IsCombined a b (gcd_within steps a b)
unfolding gcd_within
combined_within zero a b h = subst (λ (c : ℕ). IsCombined a c a) (let e : 0 ≡ b = omega arith in e)
    (combined_zero a)
combined_within (suc steps) a zero h = combined_zero a
combined_within (suc steps) a (suc b) h =
    let small : a % suc b ≤ steps = omega arith in
    combined_step a (suc b) (gcd_within steps (suc b) (a % suc b))
    (combined_within steps (suc b) (a % suc b) small)

combined : (a b : ℕ) → IsCombined a b (gcd_of a b)
unfolding gcd_of
combined a b = combined_within b a b (omega arith)

-- ---- which numbers have an inverse

-- the number is its absolute value, or that turned in sign
sign_of : (x : ℤ) → (e : ℤ) × (pos (unsigned_abs x) ≡ e *ℤ x)
sign_of (pos n) = (pos 1, omega (arith, ints))
sign_of (negsuc n) = (negsuc 0, omega (arith, ints))

-- an inverse below m, if the greatest common divisor is 1
inverse_exists : (m : ℕ) (x : ℤ) → 1 < m → gcd_of (unsigned_abs x) m ≡ 1 →
    (w : ℕ) × (w < m) × IsZeroModulo m (pos w *ℤ x -ℤ pos 1)
inverse_exists m x large one =
    let some : 0 < m = omega arith in
    let h = combined (unsigned_abs x) m in
    let (e, sized) = sign_of x in
    let u = h.s *ℤ e in
    let (w, is, low) = residue_below m u some in
    let sum : pos 1 ≡ h.s *ℤ (e *ℤ x) +ℤ h.t *ℤ pos m =
    ap pos (sym one) ∙ h.is ∙ ap (λ z. h.s *ℤ z +ℤ h.t *ℤ pos m) sized in
    let apart : IsZeroModulo m (u -ℤ pos w) =
    subst (λ (z : ℤ). IsZeroModulo m (u -ℤ z)) is (residue_same m u some) in
    let multiple : IsZeroModulo m (neg_ℤ h.t *ℤ pos m) = (neg_ℤ h.t, refl) in (
      w,
      low,
      zero_is m (pos w *ℤ x -ℤ pos 1) (neg_ℤ h.t *ℤ pos m -ℤ x *ℤ (u -ℤ pos w))
          (ap (λ z. pos w *ℤ x -ℤ z) sum ∙ regroup (pos w) x h.s e h.t (pos m))
          (zero_difference m (neg_ℤ h.t *ℤ pos m) (x *ℤ (u -ℤ pos w)) multiple
          (zero_times m x (u -ℤ pos w) apart)),
    )
  where
    regroup : (w x s e t m : ℤ) →
        w *ℤ x -ℤ (s *ℤ (e *ℤ x) +ℤ t *ℤ m) ≡ neg_ℤ t *ℤ m -ℤ x *ℤ (s *ℤ e -ℤ w)
    regroup w x s e t m = by_ring (w ∷ x ∷ s ∷ e ∷ t ∷ m ∷ []) (search ring depth 20) refl

-- a divisor of the absolute value divides the number
zero_of_divisor : (d : ℕ) (x : ℤ) → d ∣ unsigned_abs x → IsZeroModulo d x
zero_of_divisor d (pos n) h = let (c, is) = cofactor d n h in (pos c, omega (arith, ints))
zero_of_divisor d (negsuc n) h =
    let (c, is) = cofactor d (suc n) h in
    let turned = neg_mul_z (pos c) (pos d) in
    (neg_ℤ (pos c), omega (arith, ints))

divisor_of_zero : (d n : ℕ) → IsZeroModulo d (pos n) → d ∣ n
divisor_of_zero d n (k, is) =
    divides_product d n (unsigned_abs k) (ap unsigned_abs is ∙ unsigned_abs-mul k (pos d)
    ∙ mul_comm (unsigned_abs k) d)

-- what has an inverse has only 1 in common with m
pub coprime_of_inverse : (m : ℕ) (w x : ℤ) → IsZeroModulo m (w *ℤ x -ℤ pos 1) →
    IsGcd (unsigned_abs x) m 1
coprime_of_inverse m w x (k, is) = (
  one-dvd (unsigned_abs x),
  one-dvd m,
  λ d p q.
      divisor_of_zero d 1
      (zero_is d (pos 1) (w *ℤ x -ℤ k *ℤ pos m) (unit (w *ℤ x) (k *ℤ pos m) is)
      (zero_difference d (w *ℤ x) (k *ℤ pos m) (zero_times d w x (zero_of_divisor d x p))
      (zero_times d k (pos m) (zero_of_divisor d (pos m) q)))),
)
  where
    unit : (a b : ℤ) → a -ℤ pos 1 ≡ b → pos 1 ≡ a -ℤ b
    unit a b e = omega (arith, ints)

-- ---- what is found

-- if nothing is found, nothing is there
pub find_none : {X : Type 0} (p : X → Bool) (xs : List X) → find p xs ≡ None →
    All (λ x. p x ≡ false) xs
find_none p [] e = All-nil (λ x. p x ≡ false)
find_none p (y ∷ ys) e = by_test (p y) refl e (find_none p ys)
  where
    by_test : (b : Bool) → p y ≡ b → cond b (Some y) (find p ys) ≡ None →
        (find p ys ≡ None → All (λ x. p x ≡ false) ys) → All (λ x. p x ≡ false) (y ∷ ys)
    by_test true t e later = absurd cc
    by_test false t e later = All-cons (λ x. p x ≡ false) y ys t (later e)

-- the residue of the product is 1
inverts : (m : ℕ) (w : ℕ) (x : ℤ) → 1 < m → IsZeroModulo m (pos w *ℤ x -ℤ pos 1) →
    residue m (pos w *ℤ x) ≡ pos 1
inverts m w x large h = residue_only m (pos w *ℤ x) 1 large h

inverse_is : (m w : ℕ) (x : ℤ) → 1 < m → inverse m x ≡ Some w →
    (w < m) × IsZeroModulo m (pos w *ℤ x -ℤ pos 1)
unfolding inverse
inverse_is m w x large e =
    let (low, is) = find_has (λ v. v < m) (λ v. int_eq (residue m (pos v *ℤ x)) (pos 1))
    (range_with_len 0 m) w
    (All-range (λ v. v < m) 0 m (λ i below. omega arith)) e in (
      low,
      subst (λ (z : ℤ). IsZeroModulo m (pos w *ℤ x -ℤ z))
          ((Decides-int_eq (residue m (pos w *ℤ x)) (pos 1)).0 is)
          (residue_same m (pos w *ℤ x) (omega arith)),
    )

none_inverts : (m w : ℕ) (x : ℤ) → 1 < m → inverse m x ≡ None → w < m →
    IsZeroModulo m (pos w *ℤ x -ℤ pos 1) → ⊥
unfolding inverse
none_inverts m w x large e low h =
    let len = length-range_with_len 0 m in
    let all = find_none (λ v. int_eq (residue m (pos v *ℤ x)) (pos 1)) (range_with_len 0 m) e in
    let place : get_or (range_with_len 0 m) w 0 ≡ w = get_or-range_with_len 0 m w 0 low
    ∙ omega arith in
    let apart : int_eq (residue m (pos w *ℤ x)) (pos 1) ≡ false =
    subst (λ (v : ℕ). int_eq (residue m (pos v *ℤ x)) (pos 1) ≡ false) place
    (All-get_or (λ v. int_eq (residue m (pos v *ℤ x)) (pos 1) ≡ false) (range_with_len 0 m) w 0
    (omega arith) all) in
    not_from_Decides _ (Decides-int_eq (residue m (pos w *ℤ x)) (pos 1)) apart
    (inverts m w x large h)

-- two inverses are the same
same_inverse : (m v w : ℕ) (x : ℤ) → v < m → w < m → IsZeroModulo m (pos v *ℤ x -ℤ pos 1) →
    IsZeroModulo m (pos w *ℤ x -ℤ pos 1) → v ≡ w
same_inverse m v w x v_low w_low first second =
    same_below m v w v_low w_low
    (zero_is m (pos v -ℤ pos w) (pos w *ℤ (pos v *ℤ x -ℤ pos 1) -ℤ pos v *ℤ (pos w *ℤ x -ℤ pos 1))
    (regroup (pos v) (pos w) x)
    (zero_difference m (pos w *ℤ (pos v *ℤ x -ℤ pos 1)) (pos v *ℤ (pos w *ℤ x -ℤ pos 1))
    (zero_times m (pos w) (pos v *ℤ x -ℤ pos 1) first)
    (zero_times m (pos v) (pos w *ℤ x -ℤ pos 1) second)))
  where
    regroup : (v w x : ℤ) → v -ℤ w ≡ w *ℤ (v *ℤ x -ℤ pos 1) -ℤ v *ℤ (w *ℤ x -ℤ pos 1)
    regroup v w x = by_ring (v ∷ w ∷ x ∷ []) (search ring depth 20) refl

pub inverse_found : (m : ℕ) (x : ℤ) → 1 < m →
    IfSome (inverse m x) (λ w. (w < m) × IsZeroModulo m (pos w *ℤ x -ℤ pos 1))
inverse_found m x large = by_case (inverse m x) refl
  where
    by_case : (o : Option ℕ) → inverse m x ≡ o →
        IfSome o (λ w. (w < m) × IsZeroModulo m (pos w *ℤ x -ℤ pos 1))
    by_case None e = tt
    by_case (Some w) e = inverse_is m w x large e

pub inverse_only : (m w : ℕ) (x : ℤ) → 1 < m → w < m → IsZeroModulo m (pos w *ℤ x -ℤ pos 1) →
    inverse m x ≡ Some w
inverse_only m w x large low h = by_case (inverse m x) refl
  where
    by_case : (o : Option ℕ) → inverse m x ≡ o → o ≡ Some w
    by_case None e = absurd (none_inverts m w x large e low h)
    by_case (Some v) e =
        let (v_low, v_is) = inverse_is m v x large e in
        ap Some (same_inverse m v w x v_low low v_is h)

pub inverse_none : (m : ℕ) (x : ℤ) → 1 < m →
    ((inverse m x ≡ None) ↔ (gcd_of (unsigned_abs x) m ≢ 1))
inverse_none m x large = (
  λ e one. let (w, low, h) = inverse_exists m x large one in none_inverts m w x large e low h,
  λ apart. by_case apart (inverse m x) refl,
)
  where
    by_case : gcd_of (unsigned_abs x) m ≢ 1 → (o : Option ℕ) → inverse m x ≡ o → o ≡ None
    by_case apart None e = refl
    by_case apart (Some w) e =
        absurd (apart (sym (gcd_is_gcd_of (unsigned_abs x) m 1
        (coprime_of_inverse m (pos w) x (inverse_is m w x large e).1))))
