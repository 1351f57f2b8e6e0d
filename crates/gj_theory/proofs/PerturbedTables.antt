-- A minimal table plus and minus a small multiple of a perturbation is two minimal tables.
use Rattle.std.proofs.Common.{◌≡◌, ◌≢◌, ℕ, zero, suc, ◌+◌, ◌*◌, ◌%◌, ◌<◌, ◌≤◌, ℤ, pos, ◌+ℤ◌, ◌-ℤ◌, ◌*ℤ◌, neg_ℤ, ◌≤ℤ◌, [], ◌∷◌, unsigned_abs, refl, sym, ap, ap₂, ◌∙◌, arith}
use Rattle.std.proofs.lemmas.Int.{ints, by_lt_z}
use Rattle.gj_lemmas.proofs.Integers.{mul_le_mul_left_z, mul_le_cancel_right_z, mul_cancel_left_z, mul_neg_z, mul_comm_z}
use Rattle.gj_lemmas.proofs.Quotients.{periods, same_at_remainder}
use Rattle.gj_lemmas.proofs.Ring.{by_ring, ring}
use Rattle.gj_shape.specs.Table.{IsMinimalTable}
use Rattle.gj_theory.specs.Halves.{IsPerturbation, IsBelowSlacks, raised, lowered, AreDifferentHalves}
use Rattle.gj_theory.proofs.Continuous.{same_minimal_table}

-- ---- over plain numbers: w t + v p, if w is at least the slack of p and v at most that of t

loose_step : (w v x y z p q r : ℤ) → pos 0 ≤ℤ w → pos 0 ≤ℤ v → v ≤ℤ (x +ℤ y -ℤ z) →
    (r -ℤ p -ℤ q) ≤ℤ w →
    (w *ℤ z +ℤ v *ℤ r) ≤ℤ ((w *ℤ x +ℤ v *ℤ p) +ℤ (w *ℤ y +ℤ v *ℤ q))
loose_step w v x y z p q r w_sign v_sign slack size =
    let first = mul_le_mul_left_z v (x +ℤ y -ℤ z) w w_sign slack in
    let second = mul_le_mul_left_z (r -ℤ p -ℤ q) w v v_sign size in
    let e : w *ℤ (x +ℤ y -ℤ z) ≡ w *ℤ x +ℤ w *ℤ y -ℤ w *ℤ z =
    by_ring (w ∷ x ∷ y ∷ z ∷ []) (search ring depth 20) refl in
    let g : v *ℤ (r -ℤ p -ℤ q) ≡ v *ℤ r -ℤ v *ℤ p -ℤ v *ℤ q =
    by_ring (v ∷ r ∷ p ∷ q ∷ []) (search ring depth 20) refl in
    let turned = mul_comm_z w v in
    omega (arith, ints)

tight_step : (w v x y z p q r : ℤ) → x +ℤ y ≡ z → p +ℤ q ≡ r →
    w *ℤ z +ℤ v *ℤ r ≡ (w *ℤ x +ℤ v *ℤ p) +ℤ (w *ℤ y +ℤ v *ℤ q)
tight_step w v x y z p q r e g =
    ap₂ (λ c d. w *ℤ c +ℤ v *ℤ d) (sym e) (sym g)
    ∙ by_ring (w ∷ v ∷ x ∷ y ∷ p ∷ q ∷ []) (search ring depth 20) refl

-- ---- signs from subadditivity

multiples : (a : ℕ → ℤ) → a 0 ≡ pos 0 → ((i j : ℕ) → a (i + j) ≤ℤ (a i +ℤ a j)) → (i c : ℕ) →
    a (i * c) ≤ℤ (a i *ℤ pos c)
multiples a zero_at_zero h i zero =
    let at_zero : a (i * 0) ≡ pos 0 = ap a (omega arith) ∙ zero_at_zero in omega (arith, ints)
multiples a zero_at_zero h i (suc c) =
    let next : a (i * suc c) ≡ a (i * c + i) = ap a (omega arith) in
    let step = h (i * c) i in
    let before = multiples a zero_at_zero h i c in
    let split : a i *ℤ pos (suc c) ≡ a i *ℤ pos c +ℤ a i =
    by_ring (a i ∷ pos c ∷ []) (search ring depth 20) refl in
    omega (arith, ints)

-- 0 = a (n i) ≤ n a i
nonnegative_from_subadditive : (a : ℕ → ℤ) (n : ℕ) → 0 < n → ((i : ℕ) → a (i + n) ≡ a i) →
    a 0 ≡ pos 0 →
    ((i j : ℕ) → a (i + j) ≤ℤ (a i +ℤ a j)) → (i : ℕ) → pos 0 ≤ℤ a i
nonnegative_from_subadditive a n some period zero_at_zero h i =
    let whole : a (i * n) ≡ pos 0 = ap a (omega arith) ∙ periods a n period 0 i ∙ zero_at_zero in
    let below = multiples a zero_at_zero h i n in
    mul_le_cancel_right_z (pos 0) (a i) (pos n) (omega (arith, ints)) (omega (arith, ints))

-- ---- the perturbed tables

-- a perturbation is 0 at 0
pub perturbation_at_zero : (t : ℕ → ℤ) (n k s : ℕ) (p : ℕ → ℤ) → IsMinimalTable t n k s →
    IsPerturbation t n k p → p 0 ≡ pos 0
perturbation_at_zero t n k s p h d =
    let zero_at_zero = h.zero_at_zero in
    let twice : t 0 +ℤ t 0 ≡ t (0 + 0) = omega (arith, ints) in
    let both : p 0 +ℤ p 0 ≡ p 0 = d.at_tight.additive 0 0 twice in
    omega (arith, ints)

-- entries at places that add up to f: tight, and the perturbations add up to 0
opposite_tight : (t : ℕ → ℤ) (n k s : ℕ) → IsMinimalTable t n k s → (i j : ℕ) →
    (i + j) % n ≡ k % n →
    t i +ℤ t j ≡ t (i + j)
opposite_tight t n k s h i j opposite =
    let zero_at_zero = h.zero_at_zero in
    let place : t 0 +ℤ t k ≡ pos s = h.symmetric 0 k (ap (λ x. x % n) (omega arith)) in
    let there : t (i + j) ≡ t k = same_at_remainder t n h.has_period (i + j) k opposite in
    let sum = h.symmetric i j opposite in
    omega (arith, ints)

opposite_zero : (t : ℕ → ℤ) (n k s : ℕ) (p : ℕ → ℤ) → IsMinimalTable t n k s →
    IsPerturbation t n k p →
    (i j : ℕ) → (i + j) % n ≡ k % n → p i +ℤ p j ≡ pos 0
opposite_zero t n k s p h d i j opposite =
    d.at_tight.additive i j (opposite_tight t n k s h i j opposite)
    ∙ same_at_remainder p n d.at_tight.has_period (i + j) k opposite ∙ d.zero_at_place

raised_subadditive : (t p : ℕ → ℤ) (n k s u size : ℕ) → IsMinimalTable t n k s →
    IsPerturbation t n k p →
    IsBelowSlacks t u → ((j : ℕ) → unsigned_abs (p j) ≤ size) → (i j : ℕ) →
    raised t p u size (i + j) ≤ℤ (raised t p u size i +ℤ raised t p u size j)
raised_subadditive t p n k s u size h d slacks sizes i j =
    by_lt_z (pos 0) (t i +ℤ t j -ℤ t (i + j))
    (λ loose.
    let first = sizes i in
    let second = sizes j in
    let both = sizes (i + j) in
    loose_step (pos (3 * size)) (pos u) (t i) (t j) (t (i + j)) (p i) (p j) (p (i + j))
    (omega (arith, ints))
    (omega (arith, ints)) (slacks.below i j loose) (omega (arith, ints)))
    (λ low.
    let least = h.subadditive i j in
    let tight : t i +ℤ t j ≡ t (i + j) = omega (arith, ints) in
    let equal =
    tight_step (pos (3 * size)) (pos u) (t i) (t j) (t (i + j)) (p i) (p j) (p (i + j)) tight
    (d.at_tight.additive i j tight) in
    omega (arith, ints))

raised_symmetric : (w s v x y p q : ℤ) → x +ℤ y ≡ s → p +ℤ q ≡ pos 0 →
    (w *ℤ x +ℤ v *ℤ p) +ℤ (w *ℤ y +ℤ v *ℤ q) ≡ w *ℤ s
raised_symmetric w s v x y p q e g =
    sym (tight_step w v x y s p q (pos 0) e g)
    ∙ by_ring (w ∷ v ∷ s ∷ []) (search ring depth 20) refl

raised_minimal : (t p : ℕ → ℤ) (n k s u size : ℕ) → 0 < n → IsMinimalTable t n k s →
    IsPerturbation t n k p →
    IsBelowSlacks t u → ((j : ℕ) → unsigned_abs (p j) ≤ size) →
    IsMinimalTable (raised t p u size) n k (3 * size * s)
raised_minimal t p n k s u size some h d slacks sizes =
    let a = raised t p u size in
    let period : (i : ℕ) → a (i + n) ≡ a i =
    λ i. ap₂ (λ x y. pos (3 * size) *ℤ x +ℤ pos u *ℤ y) (h.has_period i)
    (d.at_tight.has_period i) in
    let start : a 0 ≡ pos 0 =
    ap₂ (λ x y. pos (3 * size) *ℤ x +ℤ pos u *ℤ y) h.zero_at_zero
    (perturbation_at_zero t n k s p h d)
    ∙ by_ring (pos (3 * size) ∷ pos u ∷ []) (search ring depth 20) refl in
    let subadditive = raised_subadditive t p n k s u size h d slacks sizes in
    record {
      has_period = period;
      zero_at_zero = start;
      nonnegative = nonnegative_from_subadditive a n some period start subadditive;
      subadditive = subadditive;
      symmetric = λ i j opposite.
          raised_symmetric (pos (3 * size)) (pos s) (pos u) (t i) (t j) (p i) (p j)
          (h.symmetric i j opposite)
          (opposite_zero t n k s p h d i j opposite);
    }

-- ---- the perturbation with its sign turned

opposite_perturbation : (t : ℕ → ℤ) (n k : ℕ) (p : ℕ → ℤ) → IsPerturbation t n k p →
    IsPerturbation t n k (λ i. neg_ℤ (p i))
opposite_perturbation t n k p d = record {
  at_tight = record {
    has_period = λ i. ap neg_ℤ (d.at_tight.has_period i);
    additive = λ i j tight. let sum = d.at_tight.additive i j tight in omega (arith, ints);
  };
  zero_at_place = ap neg_ℤ d.zero_at_place;
}

lowered_minimal : (t p : ℕ → ℤ) (n k s u size : ℕ) → 0 < n → IsMinimalTable t n k s →
    IsPerturbation t n k p →
    IsBelowSlacks t u → ((j : ℕ) → unsigned_abs (p j) ≤ size) →
    IsMinimalTable (lowered t p u size) n k (3 * size * s)
lowered_minimal t p n k s u size some h d slacks sizes =
    let turned = λ (i : ℕ). neg_ℤ (p i) in
    same_minimal_table (raised t turned u size) (lowered t p u size) n k (3 * size * s)
    (λ i. ap (λ x. pos (3 * size) *ℤ t i +ℤ x) (sym (mul_neg_z (pos u) (p i))))
    (raised_minimal t turned n k s u size some h (opposite_perturbation t n k p d) slacks
    (λ j. let below = sizes j in omega (arith, ints)))

different_where : (x v p : ℤ) → unsigned_abs v ≢ 0 → p ≢ pos 0 → x +ℤ v *ℤ p ≢ x -ℤ v *ℤ p
different_where x v p v_some p_some e =
    let zero_product : v *ℤ p ≡ v *ℤ pos 0 = omega (arith, ints) in
    p_some (mul_cancel_left_z p (pos 0) v zero_product v_some)

pub halves_of_perturbation : (t p : ℕ → ℤ) (n k s u size i : ℕ) → 0 < n → IsMinimalTable t n k s →
    IsPerturbation t n k p →
    IsBelowSlacks t u → ((j : ℕ) → unsigned_abs (p j) ≤ size) → p i ≢ pos 0 →
    AreDifferentHalves t n k s (3 * size) (raised t p u size) (lowered t p u size)
halves_of_perturbation t p n k s u size i some h d slacks sizes p_some = record {
  factor =
      let size_i = sizes i in
      let value_some : unsigned_abs (p i) ≢ 0 = λ e. p_some (omega (arith, ints)) in
      omega arith;
  first = raised_minimal t p n k s u size some h d slacks sizes;
  second = lowered_minimal t p n k s u size some h d slacks sizes;
  average = λ j. by_ring (pos size ∷ pos u ∷ t j ∷ p j ∷ []) (search ring depth 20) refl;
  index = i;
  different = let u_some = slacks.positive in different_where _ (pos u) (p i) (omega arith) p_some;
}
