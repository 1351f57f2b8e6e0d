-- Where two minimal tables average to a minimal table, the first less its part of it is additive at
-- each tight pair.
use Rattle.std.proofs.Common.{◌≡◌, ℕ, ◌+◌, ◌*◌, ◌%◌, ℤ, pos, ◌+ℤ◌, ◌-ℤ◌, ◌*ℤ◌, ap, ap₂, sym, ◌∙◌, arith}
use Rattle.std.proofs.Math.Nat.{add-zero, mul-zero}
use Rattle.std.proofs.lemmas.Int.{ints}
use Rattle.gj_lemmas.proofs.Integers.{weighted_sum_z}
use Rattle.gj_shape.specs.Extreme.{AverageTo}
use Rattle.gj_shape.specs.Table.{IsMinimalTable}
use Rattle.gj_theory.specs.Steps.{IsAdditiveAtTight}

pub difference_additive : (t a b : ℕ → ℤ) (n k s c : ℕ) → IsMinimalTable t n k s →
    IsMinimalTable a n k (c * s) →
    IsMinimalTable b n k (c * s) → AverageTo c a b t →
    IsAdditiveAtTight t n (λ i. a i -ℤ pos c *ℤ t i)
difference_additive t a b n k s c minimal first second average = record {
  has_period = λ i. ap₂ (λ x y. x -ℤ pos c *ℤ y) (first.has_period i) (minimal.has_period i);
  additive = λ i j tight.
      let whole : (a i +ℤ b i) +ℤ (a j +ℤ b j) ≡ a (i + j) +ℤ b (i + j) =
      ap₂ (λ x y. x +ℤ y) (average i) (average j)
      ∙ weighted_sum_z (2 * c) (t i) (t j) (t (i + j)) tight ∙ sym (average (i + j)) in
      let sum : a i +ℤ a j ≡ a (i + j) =
      omega (arith, ints, first.subadditive i j, second.subadditive i j) in
      let part = weighted_sum_z c (t i) (t j) (t (i + j)) tight in
      omega (arith, ints);
}

pub difference_zero : (t a : ℕ → ℤ) (n k s c : ℕ) → IsMinimalTable t n k s →
    IsMinimalTable a n k (c * s) →
    (a 0 -ℤ pos c *ℤ t 0 ≡ pos 0) × (a k -ℤ pos c *ℤ t k ≡ pos 0)
difference_zero t a n k s c minimal first =
    let zero : pos c *ℤ t 0 ≡ pos 0 = ap (λ x. pos c *ℤ x) minimal.zero_at_zero
    ∙ ap pos (mul-zero c) in
    let place : (k + 0) % n ≡ k % n = ap (λ i. i % n) (add-zero k) in
    let here = first.symmetric k 0 place in
    let part : pos c *ℤ t k +ℤ pos c *ℤ t 0 ≡ pos (c * s) =
    weighted_sum_z c (t k) (t 0) (pos s) (minimal.symmetric k 0 place) in
    let start = first.zero_at_zero in
    (omega (arith, ints), omega (arith, ints))
