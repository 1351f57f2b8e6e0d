-- The numbers of the demonstration, at every index.
use Rattle.std.proofs.Common.{◌≡◌, ℕ, ◌+◌, ◌-◌, ◌*◌, ◌/◌, ◌%◌, ◌<◌, ◌≤◌, min, ⊎_elim, ap, ◌∙◌, arith}
use Rattle.std.proofs.Math.Nat.{mod-eq_of_lt, mod_self, add-mod_right, div-add-mod'}
use Rattle.std.proofs.lemmas.Bool.{cases_lt}
use Rattle.gj_lemmas.proofs.Quotients.{same_remainder}
use Rattle.gj_demo.specs.Demo.{demo_number}

-- k times the mixed-integer cut with f = 1/2 at i/(2 k)
unfoldable pub tent : ℕ → ℕ → ℕ
tent k i = min (i % (2 * k)) (2 * k - i % (2 * k))

-- 2 k times the value at i/(2 k)
unfoldable pub number_at : ℕ → ℕ → ℕ
number_at k i = demo_number k (i % (2 * k))

-- an even period keeps parity
pub same_parity : (k i : ℕ) → i % (2 * k) % 2 ≡ i % 2
same_parity k i =
    let parts = div-add-mod' i (2 * k) in
    let even : i / (2 * k) * (2 * k) ≡ i / (2 * k) * k * 2 = omega arith in
    same_remainder (i % (2 * k)) i (i / (2 * k) * k) 0 2 (omega arith)

pub number_is : (k i : ℕ) → number_at k i ≡ tent k i + k * (i % 2)
unfolding number_at tent
number_is k i = ap (λ p. min (i % (2 * k)) (2 * k - i % (2 * k)) + k * p) (same_parity k i)

-- ---- the tent

pub tent_rising : (k i : ℕ) → 0 < k → i ≤ k → tent k i ≡ i
unfolding tent
tent_rising k i some low =
    ap (λ r. min r (2 * k - r)) (mod-eq_of_lt (omega arith)) ∙ omega arith

pub tent_falling : (k i : ℕ) → 0 < k → k ≤ i → i ≤ 2 * k → tent k i ≡ 2 * k - i
unfolding tent
tent_falling k i some low high =
    ⊎_elim
    (λ (below : i < 2 * k). ap (λ r. min r (2 * k - r)) (mod-eq_of_lt below) ∙ omega arith)
    (λ (above : 2 * k ≤ i).
    let end : i ≡ 2 * k = omega arith in
    ap (λ j. min (j % (2 * k)) (2 * k - j % (2 * k))) end
    ∙ ap (λ r. min r (2 * k - r)) (mod_self (2 * k)) ∙ omega arith)
    (cases_lt i (2 * k))

-- ---- the numbers

pub number_period : (k i : ℕ) → number_at k (i + 2 * k) ≡ number_at k i
unfolding number_at
number_period k i = ap (demo_number k) (add-mod_right i (2 * k))

pub number_rising : (k i : ℕ) → 0 < k → i ≤ k → number_at k i ≡ i + k * (i % 2)
number_rising k i some low = number_is k i ∙ ap (λ t. t + k * (i % 2)) (tent_rising k i some low)

pub number_falling : (k i : ℕ) → 0 < k → k ≤ i → i ≤ 2 * k → number_at k i ≡ 2 * k - i + k * (i % 2)
number_falling k i some low high = number_is k i
    ∙ ap (λ t. t + k * (i % 2)) (tent_falling k i some low high)

-- from one period on
pub number_beyond : (k i j : ℕ) → i ≡ j + 2 * k → number_at k i ≡ number_at k j
number_beyond k i j e = ap (number_at k) e ∙ number_period k j
