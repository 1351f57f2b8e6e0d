-- The two minimal tables whose sum the numbers of the demonstration are.
use Rattle.std.proofs.Common.{◌≡◌, ℕ, ◌+◌, ◌-◌, ◌*◌, ◌%◌, ◌<◌, ◌≤◌, ⊎_elim, pos, ◌+ℤ◌, min, sym, ap, ◌∙◌, subst, arith}
use Rattle.std.proofs.Math.Nat.{mod-lt, mul_comm, mul-one, mul-le-mul_left}
use Rattle.std.proofs.lemmas.Bool.{cases_lt}
use Rattle.std.proofs.lemmas.Int.{ints}
use Rattle.gj_lemmas.proofs.Quotients.{same_remainder}
use Rattle.gj_shape.specs.Gmic.{gmic_table, gmic_scale}
use Rattle.gj_shape.specs.Table.{IsMinimalTable}
use Rattle.gj_theory.proofs.GmicTable.{entry_rising, entry_falling, gmic_minimal}
use Rattle.gj_demo.proofs.MinimalTables.{multiple_minimal, sum_minimal}
use Rattle.gj_demo.proofs.Numbers.{tent, number_at, number_is, same_parity}

-- ---- the tent

-- k times the tent is the table of the mixed-integer cut
gmic_is_tent : (k i : ℕ) → 0 < k → gmic_table (2 * k) k i ≡ tent k i * k
unfolding tent
gmic_is_tent k i some =
    let r = i % (2 * k) in
    let some_order : 0 < 2 * k = omega arith in
    let small = mod-lt i some_order in
    let half : 2 * k - k ≡ k = omega arith in
    ⊎_elim
    (λ (high : k < r).
    let fall : min r (2 * k - r) ≡ 2 * k - r = omega arith in
    entry_falling (2 * k) k i high ∙ mul_comm k (2 * k - r) ∙ ap (λ n. n * k) (sym fall))
    (λ (low : r ≤ k).
    let rise : min r (2 * k - r) ≡ r = omega arith in
    entry_rising (2 * k) k i low ∙ ap (λ n. n * r) half ∙ mul_comm k r ∙ ap (λ n. n * k) (sym rise))
    (cases_lt k r)

pub tent_minimal : (k : ℕ) → 0 < k → IsMinimalTable (λ i. pos (tent k i)) (2 * k) k k
tent_minimal k some =
    let half : 2 * k - k ≡ k = omega arith in
    let scale : gmic_scale (2 * k) k ≡ k * k = ap (λ n. k * n) half in
    multiple_minimal k 1 (λ i. pos (tent k i)) (λ i. pos (gmic_table (2 * k) k i)) (2 * k) k k
    (gmic_scale (2 * k) k)
    (record { some = some; same = λ i. let e = gmic_is_tent k i some in omega (arith, ints) })
    (omega (arith, ints))
    (gmic_minimal (2 * k) k some (omega arith))

-- ---- 0 at even and k at odd places

pub alternation : ℕ → ℕ → ℕ
alternation k i = k * (i % 2)

pub alternation_odd : (k i : ℕ) → i % 2 ≡ 1 → alternation k i ≡ k
unfolding alternation
alternation_odd k i odd = ap (λ p. k * p) odd ∙ mul-one k

-- parities by the parity of a sum
parity_below : (k i j : ℕ) → alternation k (i + j) ≤ alternation k i + alternation k j
unfolding alternation
parity_below k i j =
    let low : (i + j) % 2 ≤ i % 2 + j % 2 = omega arith in
    let times = mul-le-mul_left k low in
    omega arith

odd_opposite : (n i j : ℕ) → (i + j) % (2 * (2 * n + 1)) ≡ (2 * n + 1) % (2 * (2 * n + 1)) →
    i % 2 + j % 2 ≡ 1
odd_opposite n i j e =
    let k = 2 * n + 1 in
    let parity : (i + j) % 2 ≡ k % 2 = sym (same_parity k (i + j)) ∙ ap (λ r. r % 2) e
    ∙ same_parity k k in
    omega arith

pub alternation_minimal : (n : ℕ) →
    IsMinimalTable (λ i. pos (alternation (2 * n + 1) i)) (2 * (2 * n + 1)) (2 * n + 1) (2 * n + 1)
unfolding alternation
alternation_minimal n =
    let k = 2 * n + 1 in
    record {
      has_period = λ i.
          let e : (i + 2 * k) % 2 ≡ i % 2 = same_remainder (i + 2 * k) i 0 k 2 (omega arith) in
          ap (λ p. pos (k * p)) e;
      zero_at_zero = omega (arith, ints);
      nonnegative = λ i. omega (arith, ints);
      subadditive = λ i j. let h = parity_below k i j in omega (arith, ints);
      symmetric = λ i j e.
          let h = ap (λ p. k * p) (odd_opposite n i j e) in
          omega (arith, ints);
    }

-- ---- their sum

pub numbers_are_sums : (k i : ℕ) → number_at k i ≡ tent k i + alternation k i
unfolding alternation
numbers_are_sums k i = number_is k i

pub numbers_minimal : (n : ℕ) →
    IsMinimalTable (λ i. pos (tent (2 * n + 1) i) +ℤ pos (alternation (2 * n + 1) i))
    (2 * (2 * n + 1)) (2 * n + 1) (2 * (2 * n + 1))
numbers_minimal n =
    let k = 2 * n + 1 in
    let twice : k + k ≡ 2 * k = omega arith in
    subst (λ (s : ℕ). IsMinimalTable (λ i. pos (tent k i) +ℤ pos (alternation k i)) (2 * k) k s)
    twice
    (sum_minimal (λ i. pos (tent k i)) (λ i. pos (alternation k i)) (2 * k) k k k
    (tent_minimal k (omega arith)) (alternation_minimal n))
