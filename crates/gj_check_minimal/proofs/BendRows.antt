-- The slacks of pairs are nowhere negative if they are not where an index bends.
use Rattle.std.proofs.Common.{◌≡◌, ◌⊎◌, inl, inr, ℕ, zero, suc, ◌+◌, ◌-◌, ◌≤◌, ℤ, pos, negsuc, ◌+ℤ◌, ◌-ℤ◌, ◌<ℤ◌, ◌≤ℤ◌, subst, sym, ap, arith}
use Rattle.std.proofs.lemmas.Int.{ints}

-- ---- one row of slacks

-- a number is negative or not
signs : (x : ℤ) → (x <ℤ pos 0) ⊎ (pos 0 ≤ℤ x)
signs (pos x) = inr (omega (arith, ints))
signs (negsuc x) = inl (omega (arith, ints))

-- up to n the numbers lie on a line where they are negative
abbrev IsLineBelow : (ℕ → ℤ) → ℕ → Type 0
IsLineBelow g n = (j : ℕ) → j + 2 ≤ n → g (j + 1) <ℤ pos 0 →
    g j +ℤ g (j + 2) ≡ g (j + 1) +ℤ g (j + 1)

-- the first is not negative: so they fall to each that is
falls : (g : ℕ → ℤ) (n : ℕ) → pos 0 ≤ℤ g 0 → IsLineBelow g n → (j : ℕ) → j + 1 ≤ n →
    g (j + 1) <ℤ pos 0 → g (j + 1) <ℤ g j
falls g n first line zero within negative = omega (arith, ints)
falls g n first line (suc j) within negative =
    let one : g (suc j) ≡ g (j + 1) = ap g (let e : suc j ≡ j + 1 = omega arith in e) in
    let two : g (suc j + 1) ≡ g (j + 2) = ap g (let e : suc j + 1 ≡ j + 2 = omega arith in e) in
    elim (signs (g (j + 1))) [
      | inr not_negative ↦ omega (arith, ints)
      | inl below ↦
          let before = falls g n first line j (omega arith) below in
          let here = line j (omega arith) below in
          omega (arith, ints)
    ]

-- and on to the last
last_falls : (g : ℕ → ℤ) (n : ℕ) → pos 0 ≤ℤ g 0 → IsLineBelow g n → (m j : ℕ) → j + 1 + m ≡ n →
    g (j + 1) <ℤ pos 0 → g n <ℤ pos 0
last_falls g n first line zero j is negative =
    subst (λ (k : ℕ). g k <ℤ pos 0) (let e : j + 1 ≡ n = omega arith in e) negative
last_falls g n first line (suc m) j is negative =
    let before = falls g n first line j (omega arith) negative in
    let here = line j (omega arith) negative in
    let next : g (j + 1 + 1) ≡ g (j + 2) = ap g (let e : j + 1 + 1 ≡ j + 2 = omega arith in e) in
    last_falls g n first line m (j + 1) (omega arith) (omega (arith, ints))

-- so none is negative if the last is not
none_negative : (g : ℕ → ℤ) (n : ℕ) → pos 0 ≤ℤ g 0 → pos 0 ≤ℤ g n → IsLineBelow g n → (j : ℕ) →
    j ≤ n → pos 0 ≤ℤ g j
none_negative g n first last line zero within = first
none_negative g n first last line (suc j) within = elim (signs (g (j + 1))) [
  | inr not_negative ↦ subst (λ (k : ℕ). pos 0 ≤ℤ g k) (let e : j + 1 ≡ suc j = omega arith in
      e) not_negative
  | inl below ↦
      let end = last_falls g n first line (n - (j + 1)) j (omega arith) below in
      absurd (omega (arith, ints))
]

-- ---- values that bend at some indices

-- the values have the period n, and lie on a line at each index that is none of these
pub record BendsAt (v : ℕ → ℤ) (n : ℕ) (IsBend : ℕ → Type 0) : Type 0 where
  pub repeats : (i : ℕ) → v (i + n) ≡ v i
  pub lines : (i : ℕ) → (v i +ℤ v (i + 2) ≡ v (i + 1) +ℤ v (i + 1)) ⊎ IsBend (i + 1)
  pub start : IsBend 0
  pub again : (i : ℕ) → IsBend i → IsBend (i + n)

-- the values at i and j add up to no less than the value at i + j
abbrev Passes : (ℕ → ℤ) → ℕ → ℕ → Type 0
Passes v i j = v (i + j) ≤ℤ (v i +ℤ v j)

mirrored : (v : ℕ → ℤ) (i j : ℕ) → Passes v i j → Passes v j i
mirrored v i j h =
    let turned : v (j + i) ≡ v (i + j) = ap v (let e : j + i ≡ i + j = omega arith in e) in
    omega (arith, ints)

-- the pairs with one index pass if those do in which the other index or the sum bends
row_passes : (v : ℕ → ℤ) (n : ℕ) (IsBend : ℕ → Type 0) → BendsAt v n IsBend → (i : ℕ) →
    ((j : ℕ) → j ≤ n → IsBend j → Passes v i j) →
    ((j : ℕ) → j ≤ n → IsBend (i + j) → Passes v i j) → (j : ℕ) → j ≤ n → Passes v i j
row_passes v n IsBend b i at_index at_sum j within =
    let first = at_index 0 (omega arith) b.start in
    let last = at_index n (omega arith)
    (subst IsBend (let e : 0 + n ≡ n = omega arith in e) (b.again 0 b.start)) in
    let all = none_negative (λ k. v i +ℤ v k -ℤ v (i + k)) n (omega (arith, ints))
    (omega (arith, ints)) line j within in
    omega (arith, ints)
  where
    line : IsLineBelow (λ k. v i +ℤ v k -ℤ v (i + k)) n
    line k below negative = elim (b.lines k) [
      | inr bend ↦ absurd (let passes = at_index (k + 1) (omega arith) bend in omega (arith, ints))
      | inl straight ↦ elim (b.lines (i + k)) [
        | inr bend ↦ absurd (
            let passes = at_sum (k + 1) (omega arith)
            (subst IsBend (let e : i + k + 1 ≡ i + (k + 1) = omega arith in e) bend) in
            omega (arith, ints)
            )
        | inl along ↦
            let one : v (i + k + 1) ≡ v (i + (k + 1)) =
            ap v (let e : i + k + 1 ≡ i + (k + 1) = omega arith in e) in
            let two : v (i + k + 2) ≡ v (i + (k + 2)) =
            ap v (let e : i + k + 2 ≡ i + (k + 2) = omega arith in e) in
            omega (arith, ints)
      ]
    ]

-- the pairs with one sum, from n on, pass if those do of which an index bends
sum_passes : (v : ℕ → ℤ) (n : ℕ) (IsBend : ℕ → Type 0) → BendsAt v n IsBend → (m : ℕ) → n ≤ m →
    ((i j : ℕ) → i + j ≡ m → IsBend i → Passes v i j) → (i j : ℕ) → i ≤ n → i + j ≡ m → Passes v i j
sum_passes v n IsBend b m long at_index i j within whole =
    let first : v m ≤ℤ (v 0 +ℤ v (m - 0)) =
    subst (λ (k : ℕ). v k ≤ℤ (v 0 +ℤ v (m - 0))) (let e : 0 + (m - 0) ≡ m = omega arith in e)
    (at_index 0 (m - 0) (omega arith) b.start) in
    let last_bends = subst IsBend (let e : 0 + n ≡ n = omega arith in e) (b.again 0 b.start) in
    let last : v m ≤ℤ (v n +ℤ v (m - n)) =
    subst (λ (k : ℕ). v k ≤ℤ (v n +ℤ v (m - n))) (let e : n + (m - n) ≡ m = omega arith in e)
    (at_index n (m - n) (omega arith) last_bends) in
    let all = none_negative (λ k. v k +ℤ v (m - k) -ℤ v m) n (omega (arith, ints))
    (omega (arith, ints)) line i within in
    let there : v (m - i) ≡ v j = ap v (let e : m - i ≡ j = omega arith in e) in
    let sum : v (i + j) ≡ v m = ap v whole in
    omega (arith, ints)
  where
    line : IsLineBelow (λ k. v k +ℤ v (m - k) -ℤ v m) n
    line k below negative = elim (b.lines k) [
      | inr bend ↦ absurd (
          let passes = at_index (k + 1) (m - (k + 1)) (omega arith) bend in
          let sum : v (k + 1 + (m - (k + 1))) ≡ v m =
          ap v (let e : k + 1 + (m - (k + 1)) ≡ m = omega arith in e) in
          omega (arith, ints)
          )
      | inl straight ↦
          let one : v (m - (k + 2) + 1) ≡ v (m - (k + 1)) =
          ap v (let e : m - (k + 2) + 1 ≡ m - (k + 1) = omega arith in e) in
          let two : v (m - (k + 2) + 2) ≡ v (m - k) =
          ap v (let e : m - (k + 2) + 2 ≡ m - k = omega arith in e) in
          elim (b.lines (m - (k + 2))) [
            | inr bend ↦ absurd (
                let passes = at_index (m - (k + 2) + 1) (k + 1) (omega arith) bend in
                let sum : v (m - (k + 2) + 1 + (k + 1)) ≡ v m =
                ap v (let e : m - (k + 2) + 1 + (k + 1) ≡ m = omega arith in e) in
                omega (arith, ints)
                )
            | inl along ↦ omega (arith, ints)
          ]
    ]

-- so all pairs pass if those do of which both indices bend, or one and the sum
pub all_pass : (v : ℕ → ℤ) (n : ℕ) (IsBend : ℕ → Type 0) → BendsAt v n IsBend →
    ((i j : ℕ) → IsBend i → IsBend j → Passes v i j) →
    ((i j : ℕ) → IsBend i → IsBend (i + j) → Passes v i j) → (i j : ℕ) → i ≤ n → j ≤ n →
    Passes v i j
all_pass v n IsBend b both one i j i_within j_within =
    row_passes v n IsBend b i at_index at_sum j j_within
  where
    at_index : (k : ℕ) → k ≤ n → IsBend k → Passes v i k
    at_index k _ bend = mirrored v k i
        (row_passes v n IsBend b k (λ m _ other. both k m bend other)
        (λ m _ sum. one k m bend sum) i i_within)

    at_sum : (k : ℕ) → k ≤ n → IsBend (i + k) → Passes v i k
    at_sum k _ bend =
        let sum : i + (k + n) ≡ i + k + n = omega arith in
        let far = sum_passes v n IsBend b (i + k + n) (omega arith)
        (λ a c whole first. one a c first (subst IsBend (sym whole) (b.again (i + k) bend)))
        i (k + n) i_within sum in
        let same : v (i + (k + n)) ≡ v (i + k + n) = ap v sum in
        let whole = b.repeats (i + k) in
        let other = b.repeats k in
        omega (arith, ints)
