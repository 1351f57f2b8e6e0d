-- Multiples and sums of minimal tables.
use Rattle.std.proofs.Common.{◌≡◌, ◌≢◌, ℕ, ◌+◌, ◌<◌, ℤ, pos, ◌+ℤ◌, ◌*ℤ◌, ◌<ℤ◌, ◌≤ℤ◌, unsigned_abs, sym, ap, ap₂, ◌∙◌, subst, subst₂, arith}
use Rattle.std.proofs.lemmas.Int.{ints}
use Rattle.gj_lemmas.proofs.Integers.{add_mul_z, mul_cancel_right_z, mul_le_mul_right_z, mul_le_cancel_right_z}
use Rattle.gj_shape.specs.Table.{IsMinimalTable}

-- c times the one table is d times the other
pub record AreMultiples (c d : ℕ) (t u : ℕ → ℤ) : Type 0 where
  pub some : 0 < c
  pub same : (i : ℕ) → t i *ℤ pos c ≡ u i *ℤ pos d

pub multiple_minimal : (c d : ℕ) (t u : ℕ → ℤ) (n k s r : ℕ) → AreMultiples c d t u →
    pos s *ℤ pos c ≡ pos r *ℤ pos d →
    IsMinimalTable u n k r → IsMinimalTable t n k s
multiple_minimal c d t u n k s r m scale h =
    let some = m.some in
    let c_some : unsigned_abs (pos c) ≢ 0 = omega arith in
    let c_positive : pos 0 <ℤ pos c = omega (arith, ints) in
    let sum : (i j : ℕ) → (t i +ℤ t j) *ℤ pos c ≡ (u i +ℤ u j) *ℤ pos d =
    λ i j. add_mul_z (t i) (t j) (pos c) ∙ ap₂ (λ x y. x +ℤ y) (m.same i) (m.same j)
    ∙ sym (add_mul_z (u i) (u j) (pos d)) in
    record {
      has_period = λ i. mul_cancel_right_z (t (i + n)) (t i) (pos c)
          (m.same (i + n) ∙ ap (λ z. z *ℤ pos d) (h.has_period i) ∙ sym (m.same i)) c_some;
      zero_at_zero = mul_cancel_right_z (t 0) (pos 0) (pos c)
          (m.same 0 ∙ ap (λ z. z *ℤ pos d) h.zero_at_zero ∙ omega (arith, ints)) c_some;
      nonnegative = λ i. mul_le_cancel_right_z (pos 0) (t i) (pos c) c_positive
          (subst (λ z. (pos 0 *ℤ pos c) ≤ℤ z) (sym (m.same i))
          (let e = mul_le_mul_right_z (pos 0) (u i) (pos d) (omega (arith, ints))
          (h.nonnegative i) in omega (arith, ints)));
      subadditive = λ i j. mul_le_cancel_right_z (t (i + j)) (t i +ℤ t j) (pos c) c_positive
          (subst₂ (λ x y. x ≤ℤ y) (sym (m.same (i + j))) (sym (sum i j))
          (mul_le_mul_right_z (u (i + j)) (u i +ℤ u j) (pos d) (omega (arith, ints))
          (h.subadditive i j)));
      symmetric = λ i j opposite. mul_cancel_right_z (t i +ℤ t j) (pos s) (pos c)
          (sum i j ∙ ap (λ z. z *ℤ pos d) (h.symmetric i j opposite) ∙ sym scale) c_some;
    }

pub sum_minimal : (t u : ℕ → ℤ) (n k s r : ℕ) → IsMinimalTable t n k s → IsMinimalTable u n k r →
    IsMinimalTable (λ i. t i +ℤ u i) n k (s + r)
sum_minimal t u n k s r g h = record {
  has_period = λ i. let a = g.has_period i in let b = h.has_period i in omega (arith, ints);
  zero_at_zero = let a = g.zero_at_zero in let b = h.zero_at_zero in omega (arith, ints);
  nonnegative = λ i. let a = g.nonnegative i in let b = h.nonnegative i in omega (arith, ints);
  subadditive = λ i j. let a = g.subadditive i j in let b = h.subadditive i j in
      omega (arith, ints);
  symmetric = λ i j e. let a = g.symmetric i j e in let b = h.symmetric i j e in
      omega (arith, ints);
}
