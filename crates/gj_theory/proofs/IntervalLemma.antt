-- A table that is additive on a closed triangle has one step on its three projections.
use Rattle.std.proofs.Common.{◌≡◌, ℕ, ◌+◌, ◌-◌, ◌<◌, ◌≤◌, ℤ, ◌+ℤ◌, ◌-ℤ◌, ap, ap₂, sym, ◌∙◌, arith}
use Rattle.std.proofs.lemmas.Int.{ints}
use Rattle.gj_theory.specs.Steps.{HasStep, IsAdditiveOnLower, IsAdditiveOnUpper}

-- additivity at given places
lower_at : (p : ℕ → ℤ) (a b m i j x y z : ℕ) → IsAdditiveOnLower p a b m → i + j ≤ m →
    x ≡ a + i → y ≡ b + j → z ≡ a + b + i + j → p x +ℤ p y ≡ p z
lower_at p a b m i j x y z h low first second sum =
    ap₂ (λ u v. p u +ℤ p v) first second ∙ h i j low ∙ ap p (sym sum)

upper_at : (p : ℕ → ℤ) (a b m i j x y z : ℕ) → IsAdditiveOnUpper p a b m → i ≤ m → j ≤ m →
    m ≤ i + j →
    x ≡ a + i → y ≡ b + j → z ≡ a + b + i + j → p x +ℤ p y ≡ p z
upper_at p a b m i j x y z h i_low j_low high first second sum =
    ap₂ (λ u v. p u +ℤ p v) first second ∙ h i j i_low j_low high ∙ ap p (sym sum)

-- the step from x to x' is that from y to y', and that from the sum s to s'
same_steps : (x x' y y' s s' : ℤ) → x +ℤ y ≡ s → x' +ℤ y ≡ s' → x +ℤ y' ≡ s' →
    (x' ≡ x +ℤ (y' -ℤ y)) × (s' ≡ s +ℤ (y' -ℤ y))
same_steps x x' y y' s s' e g h = (omega (arith, ints), omega (arith, ints))

-- one place of the lower triangle's run of x against the first step of that of y
along_lower : (p : ℕ → ℤ) (a b m i : ℕ) → IsAdditiveOnLower p a b m → i < m →
    (p (a + i + 1) ≡ p (a + i) +ℤ (p (b + 1) -ℤ p b))
    × (p (a + b + i + 1) ≡ p (a + b + i) +ℤ (p (b + 1) -ℤ p b))
along_lower p a b m i h low =
    same_steps _ _ _ _ _ _
    (lower_at p a b m i 0 (a + i) b (a + b + i) h (omega arith) (omega arith) (omega arith)
    (omega arith))
    (lower_at p a b m (i + 1) 0 (a + i + 1) b (a + b + i + 1) h (omega arith) (omega arith)
    (omega arith) (omega arith))
    (lower_at p a b m i 1 (a + i) (b + 1) (a + b + i + 1) h (omega arith) (omega arith)
    (omega arith) (omega arith))

turned_lower : (p : ℕ → ℤ) (a b m : ℕ) → IsAdditiveOnLower p a b m → IsAdditiveOnLower p b a m
turned_lower p a b m h i j low =
    let e = lower_at p a b m j i (a + j) (b + i) (b + a + i + j) h (omega arith) (omega arith)
    (omega arith) (omega arith) in
    omega (arith, ints)

pub step_on_lower : (p : ℕ → ℤ) (a b m : ℕ) → IsAdditiveOnLower p a b m →
    (t : ℤ) × HasStep p a m t × HasStep p b m t × HasStep p (a + b) m t
step_on_lower p a b m h =
    let back = turned_lower p a b m h in (
      p (b + 1) -ℤ p b,
      (λ i low. (along_lower p a b m i h low).0),
      (λ i low.
          let first : p (a + 0 + 1) ≡ p (a + 0) +ℤ (p (b + 1) -ℤ p b) =
          (along_lower p a b m 0 h (omega arith)).0 in
          let zero : p (a + 0) ≡ p a = ap p (omega arith) in
          let one : p (a + 0 + 1) ≡ p (a + 1) = ap p (omega arith) in
          let step = (along_lower p b a m i back low).0 in
          omega (arith, ints)),
      (λ i low. (along_lower p a b m i h low).1),
    )

-- ---- mirrored

same_steps_back : (x x' y y' s s' : ℤ) → x +ℤ y' ≡ s → x' +ℤ y ≡ s → x' +ℤ y' ≡ s' →
    (x' ≡ x +ℤ (y' -ℤ y)) × (s' ≡ s +ℤ (y' -ℤ y))
same_steps_back x x' y y' s s' e g h = (omega (arith, ints), omega (arith, ints))

-- one place of the upper triangle's run of x against the last step of that of y
along_upper : (p : ℕ → ℤ) (a b m i k : ℕ) → IsAdditiveOnUpper p a b m → k + 1 ≡ m → i < m →
    (p (a + i + 1) ≡ p (a + i) +ℤ (p (b + k + 1) -ℤ p (b + k)))
    × (p (a + b + m + i + 1) ≡ p (a + b + m + i) +ℤ (p (b + k + 1) -ℤ p (b + k)))
along_upper p a b m i k h last low =
    same_steps_back _ _ _ _ _ _
    (upper_at p a b m i m (a + i) (b + k + 1) (a + b + m + i) h
    (omega arith) (omega arith) (omega arith) (omega arith) (omega arith) (omega arith))
    (upper_at p a b m (i + 1) k (a + i + 1) (b + k) (a + b + m + i) h
    (omega arith) (omega arith) (omega arith) (omega arith) (omega arith) (omega arith))
    (upper_at p a b m (i + 1) m (a + i + 1) (b + k + 1) (a + b + m + i + 1) h
    (omega arith) (omega arith) (omega arith) (omega arith) (omega arith) (omega arith))

turned_upper : (p : ℕ → ℤ) (a b m : ℕ) → IsAdditiveOnUpper p a b m → IsAdditiveOnUpper p b a m
turned_upper p a b m h i j i_low j_low high =
    let e = upper_at p a b m j i (a + j) (b + i) (b + a + i + j) h j_low i_low
    (omega arith) (omega arith) (omega arith) (omega arith) in
    omega (arith, ints)

pub step_on_upper : (p : ℕ → ℤ) (a b m : ℕ) → IsAdditiveOnUpper p a b m →
    (t : ℤ) × HasStep p a m t × HasStep p b m t × HasStep p (a + b + m) m t
step_on_upper p a b m h =
    let k = m - 1 in
    let back = turned_upper p a b m h in (
      p (b + k + 1) -ℤ p (b + k),
      (λ i low. (along_upper p a b m i k h (omega arith) low).0),
      (λ i low.
          let last : k + 1 ≡ m = omega arith in
          let first = (along_upper p a b m k k h last (omega arith)).0 in
          let step = (along_upper p b a m i k back last low).0 in
          omega (arith, ints)),
      (λ i low. (along_upper p a b m i k h (omega arith) low).1),
    )
