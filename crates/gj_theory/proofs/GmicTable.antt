-- The table of the mixed-integer cut is minimal.
use Rattle.std.proofs.Common.{◌≡◌, ℕ, ◌+◌, ◌-◌, ◌*◌, ◌%◌, ◌<◌, ◌≤◌, ◌⊎◌, inl, inr, ⊎_elim, leb, if◌then◌else◌, pos, sym, ap, ◌∙◌, subst, arith}
use Rattle.std.proofs.Math.Nat.{mod-lt, mod-eq_of_lt, add-mod_right, mul_comm, mul-le-mul_left}
use Rattle.std.proofs.lemmas.Bool.{le-leb, lt-leb, cases_lt}
use Rattle.std.proofs.lemmas.Int.{ints}
use Rattle.gj_lemmas.proofs.Quotients.{place_sum_low, place_sum_high}
use Rattle.gj_shape.specs.Gmic.{gmic_table, gmic_scale}
use Rattle.gj_shape.specs.Table.{IsMinimalTable}

-- ---- the two lines of the table

-- up to the place k the entry is on the rising line
pub entry_rising : (n k i : ℕ) → i % n ≤ k → gmic_table n k i ≡ (n - k) * (i % n)
unfolding gmic_table
entry_rising n k i low =
    ap (λ b. (if b then (n - k) * (i % n) else k * (n - i % n))) (le-leb (i % n) k low)

-- from there on it is on the falling line
pub entry_falling : (n k i : ℕ) → k < i % n → gmic_table n k i ≡ k * (n - i % n)
unfolding gmic_table
entry_falling n k i high =
    ap (λ b. (if b then (n - k) * (i % n) else k * (n - i % n))) (lt-leb (i % n) k high)

-- an entry g at the rest r, with u from there to the end of the period k + l
record IsEntry (k l r u g : ℕ) : Type 0 where
  whole : r + u ≡ k + l
  line : ((r ≤ k) × (g ≡ l * r)) ⊎ ((k < r) × (g ≡ k * u))

-- is at most both lines
below_rising : (k l r u g : ℕ) → IsEntry k l r u g → g ≤ l * r
below_rising k l r u g h =
    let whole = h.whole in
    ⊎_elim (λ rising. omega (arith, rising.1))
    (λ falling.
    let short : u ≤ l = omega (arith, falling.0) in
    let long : k ≤ r = omega (arith, falling.0) in
    let first = mul-le-mul_left k short in
    let second = mul-le-mul_left l long in
    let turned = mul_comm k l in
    omega (arith, falling.1))
    h.line

below_falling : (k l r u g : ℕ) → IsEntry k l r u g → g ≤ k * u
below_falling k l r u g h =
    let whole = h.whole in
    ⊎_elim
    (λ rising.
    let short : r ≤ k = rising.0 in
    let long : l ≤ u = omega (arith, rising.0) in
    let first = mul-le-mul_left l short in
    let second = mul-le-mul_left k long in
    let turned = mul_comm k l in
    omega (arith, rising.1))
    (λ falling. omega (arith, falling.1)) h.line

-- ---- sums of two entries

-- the rest of a sum is the sum of the rests, less the period k + l if it is reached
abbrev IsRestOfSum : ℕ → ℕ → ℕ → ℕ → Type 0
IsRestOfSum n r s q = (q ≡ r + s) ⊎ (q + n ≡ r + s)

rest_of_sum : (n i j : ℕ) → 0 < n → IsRestOfSum n (i % n) (j % n) ((i + j) % n)
rest_of_sum n i j some =
    ⊎_elim (λ low. inl (place_sum_low i j n low).1) (λ high. inr (place_sum_high i j n some high).1)
    (cases_lt (i % n + j % n) n)

-- an entry on the rising line and any other
rising_and_any : (k l r u s v q w g h e : ℕ) → IsEntry k l q w e → IsRestOfSum (k + l) r s q →
    r + u ≡ k + l → g ≡ l * r →
    IsEntry k l s v h → e ≤ g + h
rising_and_any k l r u s v q w g h e sum rest whole rises other =
    let below_left = below_rising k l q w e sum in
    let below_right = below_falling k l q w e sum in
    let sum_whole = sum.whole in
    let other_whole = other.whole in
    ⊎_elim
    (λ both.
    let short : q ≤ r + s = ⊎_elim (λ a. omega arith) (λ a. omega arith) rest in
    let first = mul-le-mul_left l short in
    omega (arith, both.1))
    (λ falls. ⊎_elim
    (λ low.
    let short : w ≤ v = omega arith in
    let first = mul-le-mul_left k short in
    omega (arith, falls.1))
    (λ high.
    let short : q ≤ r = omega arith in
    let first = mul-le-mul_left l short in
    omega (arith, falls.1)) rest)
    other.line

-- two entries on the falling line
falling_both : (k l r u s v q w g h e : ℕ) → IsEntry k l q w e → IsRestOfSum (k + l) r s q →
    r + u ≡ k + l → s + v ≡ k + l →
    g ≡ k * u → h ≡ k * v → e ≤ g + h
falling_both k l r u s v q w g h e sum rest whole other_whole falls other_falls =
    let below_right = below_falling k l q w e sum in
    let sum_whole = sum.whole in
    let short : w ≤ u + v = ⊎_elim (λ a. omega arith) (λ a. omega arith) rest in
    let first = mul-le-mul_left k short in
    omega arith

rest_swapped : (n r s q : ℕ) → IsRestOfSum n r s q → IsRestOfSum n s r q
rest_swapped n r s q = ⊎_elim (λ low. inl (omega arith)) (λ high. inr (omega arith))

below_sum : (k l r u s v q w g h e : ℕ) → IsEntry k l r u g → IsEntry k l s v h →
    IsEntry k l q w e →
    IsRestOfSum (k + l) r s q → e ≤ g + h
below_sum k l r u s v q w g h e one other sum rest =
    ⊎_elim (λ rises. rising_and_any k l r u s v q w g h e sum rest one.whole rises.1 other)
    (λ falls. ⊎_elim
    (λ rises.
    let turned = rising_and_any k l s v r u q w h g e sum
    (rest_swapped (k + l) r s q rest) other.whole rises.1 one in
    omega arith)
    (λ both. falling_both k l r u s v q w g h e sum rest one.whole other.whole falls.1 both.1)
    other.line) one.line

-- two entries at rests that add up to the place k
opposite_sum : (k l r u s v g h : ℕ) → IsEntry k l r u g → IsEntry k l s v h → 0 < u → 0 < v →
    IsRestOfSum (k + l) r s k → g + h ≡ k * l
opposite_sum k l r u s v g h one other u_some v_some rest =
    let one_whole = one.whole in
    let other_whole = other.whole in
    let turned = mul_comm k l in
    ⊎_elim
    (λ low.
    let sum : l * (r + s) ≡ l * k = ap (λ n. l * n) (sym low) in
    let first : g ≡ l * r = ⊎_elim (λ a. a.1) (λ a. absurd (omega (arith, a.0))) one.line in
    let second : h ≡ l * s = ⊎_elim (λ a. a.1) (λ a. absurd (omega (arith, a.0))) other.line in
    omega arith)
    (λ high.
    let back : u + v ≡ l = omega arith in
    let sum : k * (u + v) ≡ k * l = ap (λ n. k * n) back in
    let first : g ≡ k * u = ⊎_elim (λ a. absurd (omega (arith, a.0))) (λ a. a.1) one.line in
    let second : h ≡ k * v = ⊎_elim (λ a. absurd (omega (arith, a.0))) (λ a. a.1) other.line in
    omega arith) rest

-- ---- the table

-- each entry of the table is one
entry_is : (k l i : ℕ) → 0 < k + l →
    IsEntry k l (i % (k + l)) (k + l - i % (k + l)) (gmic_table (k + l) k i)
entry_is k l i some =
    let n = k + l in
    let small = mod-lt i some in
    let left : n - k ≡ l = omega arith in
    record {
      whole = omega arith;
      line = ⊎_elim
          (λ (high : k < i % n). inr (high, entry_falling n k i high))
          (λ (low : i % n ≤ k). inl (low, entry_rising n k i low ∙ ap (λ c. c * (i % n)) left))
          (cases_lt k (i % n));
    }

same_rest : (n k i j : ℕ) → i % n ≡ j % n → gmic_table n k i ≡ gmic_table n k j
unfolding gmic_table
same_rest n k i j e = ap (λ r. (if leb r k then (n - k) * r else k * (n - r))) e

minimal_in_parts : (k l : ℕ) → 0 < k → 0 < l →
    IsMinimalTable (λ i. pos (gmic_table (k + l) k i)) (k + l) k (k * l)
minimal_in_parts k l k_some l_some =
    let n = k + l in
    let some : 0 < n = omega arith in
    let t = gmic_table n k in
    let rest_of = λ (i : ℕ). n - i % n in
    record {
      has_period = λ i. ap pos (same_rest n k (i + n) i (add-mod_right i n));
      zero_at_zero =
          let none : 0 % n ≡ 0 = mod-eq_of_lt some in
          ap pos (entry_rising n k 0 (omega arith) ∙ ap (λ r. (n - k) * r) none ∙ omega arith);
      nonnegative = λ i. omega (arith, ints);
      subadditive = λ i j.
          let h = below_sum k l (i % n) (rest_of i) (j % n) (rest_of j) ((i + j) % n)
          (rest_of (i + j)) (t i) (t j) (t (i + j))
          (entry_is k l i some) (entry_is k l j some) (entry_is k l (i + j) some)
          (rest_of_sum n i j some) in
          omega (arith, ints);
      symmetric = λ i j e.
          let place : (i + j) % n ≡ k = e ∙ mod-eq_of_lt (omega arith) in
          let i_small = mod-lt i some in
          let j_small = mod-lt j some in
          let h = opposite_sum k l (i % n) (rest_of i) (j % n) (rest_of j) (t i) (t j)
          (entry_is k l i some) (entry_is k l j some)
          (omega arith) (omega arith)
          (subst (λ (q : ℕ). IsRestOfSum n (i % n) (j % n) q) place (rest_of_sum n i j some)) in
          omega (arith, ints);
    }

pub gmic_minimal : (n k : ℕ) → 0 < k → k < n →
    IsMinimalTable (λ i. pos (gmic_table n k i)) n k (gmic_scale n k)
gmic_minimal n k some below =
    let l = n - k in
    let whole : k + l ≡ n = omega arith in
    subst (λ (m : ℕ). IsMinimalTable (λ i. pos (gmic_table m k i)) m k (k * l)) whole
    (minimal_in_parts k l some (omega arith))
