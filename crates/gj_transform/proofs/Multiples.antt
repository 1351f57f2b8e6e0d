-- A table that is read at the multiples of a number: it is minimal if the table is, and extreme.
use Rattle.std.proofs.Common.{◌≡◌, ℕ, ◌+◌, ◌*◌, ◌/◌, ◌%◌, ℤ, pos, ◌+ℤ◌, ◌*ℤ◌, ◌≤ℤ◌, sym, ap, subst, ◌∙◌, arith}
use Rattle.gj_lemmas.proofs.Quotients.{same_remainder, from_same_remainder, periods}
use Rattle.gj_shape.specs.Extreme.{IsExtremeTable}
use Rattle.gj_shape.specs.Table.{IsMinimalTable}

-- the entries of a minimal table at the multiples of c, if N multiples make whole periods and the
-- K-th leads to the place k
pub minimal_at_multiples : (t : ℕ → ℤ) (n k s c w N K : ℕ) → N * c ≡ w * n → (K * c) % n ≡ k % n →
    IsMinimalTable t n k s →
    IsMinimalTable (λ i. t (i * c)) N K s
minimal_at_multiples t n k s c w N K period place h = record {
  has_period = λ i.
      let further : (i + N) * c ≡ i * c + w * n = omega arith in
      ap t further ∙ periods t n h.has_period (i * c) w;
  zero_at_zero =
      let start : 0 * c ≡ 0 = omega arith in
      ap t start ∙ h.zero_at_zero;
  nonnegative = λ i. h.nonnegative (i * c);
  subadditive = λ i j.
      let sum : i * c + j * c ≡ (i + j) * c = omega arith in
      subst (λ (x : ℕ). t x ≤ℤ (t (i * c) +ℤ t (j * c))) sum (h.subadditive (i * c) (j * c));
  symmetric = λ i j opposite.
      let a = K / N in
      let b = (i + j) / N in
      let whole : i + j + a * N ≡ K + b * N = from_same_remainder (i + j) K N opposite in
      let scaled : (i + j + a * N) * c ≡ (K + b * N) * c = ap (λ x. x * c) whole in
      let first : a * (N * c) ≡ a * (w * n) = ap (λ x. a * x) period in
      let second : b * (N * c) ≡ b * (w * n) = ap (λ x. b * x) period in
      h.symmetric (i * c) (j * c)
      (same_remainder (i * c + j * c) (K * c) (a * w) (b * w) n (omega arith) ∙ place);
}

-- the same of extreme tables, if c is its own inverse
pub extreme_at_multiples : (t : ℕ → ℤ) (n k K s c w : ℕ) → c * c ≡ w * n + 1 → (K * c) % n ≡ k % n →
    (k * c) % n ≡ K % n →
    IsExtremeTable t n k s → IsExtremeTable (λ i. t (i * c)) n K s
extreme_at_multiples t n k K s c w inverse there back h = record {
  minimal = minimal_at_multiples t n k s c c n K (omega arith) there h.minimal;
  no_average = λ factor a b some first second average i.
      sym (twice a ((first).has_period) i)
      ∙ h.no_average factor (λ j. a (j * c)) (λ j. b (j * c)) some (turned a (factor * s) first)
      (turned b (factor * s) second)
      (λ j. average (j * c) ∙ ap (λ z. pos (2 * factor) *ℤ z) (twice t h.minimal.has_period j))
      (i * c)
      ∙ twice b ((second).has_period) i;
}
  where
    twice : (x : ℕ → ℤ) → ((i : ℕ) → x (i + n) ≡ x i) → (i : ℕ) → x (i * c * c) ≡ x i
    twice x period i =
        let scaled : i * (c * c) ≡ i * (w * n + 1) = ap (λ y. i * y) inverse in
        let further : i * c * c ≡ i + i * w * n = omega arith in
        ap x further ∙ periods x n period i (i * w)

    turned : (x : ℕ → ℤ) (r : ℕ) → IsMinimalTable x n K r → IsMinimalTable (λ j. x (j * c)) n k r
    turned x r minimal = minimal_at_multiples x n K r c c n k (omega arith) back minimal

-- ---- longer periods

-- a table of period q that is minimal with a multiple of q as its period is minimal, whatever
-- multiple of q is added to the place
pub minimal_of_longer : (t : ℕ → ℤ) (q k j s w : ℕ) → ((i : ℕ) → t (i + q) ≡ t i) →
    IsMinimalTable t (q * (w + 1)) (k + j * q) s → IsMinimalTable t q k s
minimal_of_longer t q k j s w period h = record {
  has_period = period;
  zero_at_zero = h.zero_at_zero;
  nonnegative = h.nonnegative;
  subadditive = h.subadditive;
  symmetric = λ i l opposite.
      let a = k / q in
      let b = (i + l) / q in
      let c = j + a + b * w in
      let whole : i + l + a * q ≡ k + b * q = from_same_remainder (i + l) k q opposite in
      let further : i + (l + c * q) + 0 * (q * (w + 1)) ≡ k + j * q + b * (q * (w + 1)) =
      omega arith in
      ap (λ x. t i +ℤ x) (sym (periods t q period l c))
      ∙ h.symmetric i (l + c * q)
      (same_remainder (i + (l + c * q)) (k + j * q) 0 b (q * (w + 1)) further);
}
