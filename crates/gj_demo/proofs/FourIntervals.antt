-- Each interval of the demonstration is joined to one of the intervals 0, 1, q - 2 and q - 1, or is
-- it.
use Rattle.std.proofs.Common.{◌≡◌, ℕ, ◌+◌, ◌-◌, ◌*◌, ◌%◌, ◌<◌, ◌≤◌, ◌⊎◌, ⊎_elim, inl, inr, leb, eqb, if◌then◌else◌, refl, sym, ap, subst, ◌∙◌, arith}
use Rattle.std.proofs.Math.Nat.{add-mod_right}
use Rattle.std.proofs.lemmas.Bool.{le-leb, lt-leb, cases_lt}
use Rattle.gj_lemmas.proofs.Lists.{All-two, All-three}
use Rattle.gj_shape.specs.Additive.{IsAdditive}
use Rattle.gj_shape.specs.Cover.{AreJoined, LeadsTo}
use Rattle.gj_shape.specs.Cover.LeadsTo.{here, onward}
use Rattle.gj_shape.specs.declared.faces.FaceKind.TheVariants.{Horizontal, Lower, Upper}
use Rattle.gj_demo.proofs.Numbers.{number_at, number_rising, number_falling, number_beyond}

-- ---- the numbers by parity

parity_out : (k i s : ℕ) → i % 2 ≡ s → k * (i % 2) ≡ k * s
parity_out k i s e = ap (λ p. k * p) e

low_even : (k i : ℕ) → 0 < k → i ≤ k → i % 2 ≡ 0 → number_at k i ≡ i
low_even k i some low even =
    let e = number_rising k i some low in let p = parity_out k i 0 even in omega arith

low_odd : (k i : ℕ) → 0 < k → i ≤ k → i % 2 ≡ 1 → number_at k i ≡ i + k
low_odd k i some low odd =
    let e = number_rising k i some low in let p = parity_out k i 1 odd in omega arith

high_even : (k i : ℕ) → 0 < k → k ≤ i → i ≤ 2 * k → i % 2 ≡ 0 → number_at k i + i ≡ 2 * k
high_even k i some low high even =
    let e = number_falling k i some low high in let p = parity_out k i 0 even in omega arith

high_odd : (k i : ℕ) → 0 < k → k ≤ i → i ≤ 2 * k → i % 2 ≡ 1 → number_at k i + i ≡ 3 * k
high_odd k i some low high odd =
    let e = number_falling k i some low high in let p = parity_out k i 1 odd in omega arith

-- ---- additive faces

-- the pairs at which the numbers add up are tight
abbrev pub AddUpAtTight : ℕ → (ℕ → ℕ → Type 0) → Type 0
AddUpAtTight k Tight = (a b : ℕ) → number_at k a + number_at k b ≡ number_at k (a + b) → Tight a b

lower_face : (k : ℕ) (Tight : ℕ → ℕ → Type 0) (i : ℕ) → AddUpAtTight k Tight → i < k → i % 2 ≡ 0 →
    IsAdditive Tight Lower 0 i
lower_face k Tight i tight below even =
    let some : 0 < k = omega arith in
    let zero_is = low_even k 0 some (omega arith) refl in
    let one_is = low_odd k 1 some (omega arith) refl in
    let here_is = low_even k i some (omega arith) even in
    let here_too = low_even k (0 + i) some (omega arith) (omega arith) in
    let next_is = low_odd k (i + 1) some (omega arith) (omega arith) in
    let next_too = low_odd k (0 + (i + 1)) some (omega arith) (omega arith) in
    let next_turned = low_odd k (1 + i) some (omega arith) (omega arith) in
    All-three (λ corner. Tight corner.0 corner.1) (0, i) (1, i) (0, i + 1)
    (tight 0 i (omega arith)) (tight 1 i (omega arith)) (tight 0 (i + 1) (omega arith))

low_horizontal : (k : ℕ) (Tight : ℕ → ℕ → Type 0) (b : ℕ) → AddUpAtTight k Tight → b + 2 ≤ k →
    b % 2 ≡ 0 →
    IsAdditive Tight Horizontal 1 b
low_horizontal k Tight b tight below even =
    let some : 0 < k = omega arith in
    let one_is = low_odd k 1 some (omega arith) refl in
    let two_is = low_even k 2 some (omega arith) refl in
    let here_is = low_even k b some (omega arith) even in
    let next_is = low_odd k (1 + b) some (omega arith) (omega arith) in
    let last_is = low_even k (2 + b) some (omega arith) (omega arith) in
    All-two (λ corner. Tight corner.0 corner.1) (1, b) (2, b) (tight 1 b (omega arith))
    (tight 2 b (omega arith))

upper_face : (k : ℕ) (Tight : ℕ → ℕ → Type 0) (i : ℕ) → AddUpAtTight k Tight → k ≤ i → i < 2 * k →
    i % 2 ≡ 1 →
    IsAdditive Tight Upper (2 * k - 1) i
upper_face k Tight i tight low high odd =
    let some : 0 < k = omega arith in
    let a = 2 * k - 1 in
    let end_is = high_even k (a + 1) some (omega arith) (omega arith) (omega arith) in
    let last_is = high_odd k a some (omega arith) (omega arith) (omega arith) in
    let here_is = high_odd k i some low (omega arith) odd in
    let next_is = high_even k (i + 1) some (omega arith) (omega arith) (omega arith) in
    let first_sum = number_beyond k (a + 1 + i) i (omega arith) in
    let second_sum = number_beyond k (a + (i + 1)) i (omega arith) in
    let third_sum = number_beyond k (a + 1 + (i + 1)) (i + 1) (omega arith) in
    All-three (λ corner. Tight corner.0 corner.1) (a + 1, i) (a, i + 1) (a + 1, i + 1)
    (tight (a + 1) i (omega arith)) (tight a (i + 1) (omega arith))
    (tight (a + 1) (i + 1) (omega arith))

high_horizontal : (k : ℕ) (Tight : ℕ → ℕ → Type 0) (i : ℕ) → AddUpAtTight k Tight → k % 2 ≡ 1 →
    k ≤ i → i < 2 * k → i % 2 ≡ 0 →
    IsAdditive Tight Horizontal (2 * k - 2) (i + 2)
high_horizontal k Tight i tight k_odd low high even =
    let some : 0 < k = omega arith in
    let long : 2 < k = omega arith in
    let a = 2 * k - 2 in
    let first_is = high_even k a some (omega arith) (omega arith) (omega arith) in
    let second_is = high_odd k (a + 1) some (omega arith) (omega arith) (omega arith) in
    let beside_is = high_even k (i + 2) some (omega arith) (omega arith) (omega arith) in
    let here_is = high_even k i some low (omega arith) even in
    let next_is = high_odd k (i + 1) some (omega arith) (omega arith) (omega arith) in
    let first_sum = number_beyond k (a + (i + 2)) i (omega arith) in
    let second_sum = number_beyond k (a + 1 + (i + 2)) (i + 1) (omega arith) in
    All-two (λ corner. Tight corner.0 corner.1) (a, i + 2) (a + 1, i + 2)
    (tight a (i + 2) (omega arith)) (tight (a + 1) (i + 2) (omega arith))

-- ---- the interval to which each is joined

joined_low_even : (k : ℕ) (Tight : ℕ → ℕ → Type 0) (i : ℕ) → AddUpAtTight k Tight → i < k →
    i % 2 ≡ 0 → AreJoined (2 * k) Tight i 0
joined_low_even k Tight i tight below even = (
  Lower,
  0,
  i,
  record {
    additive = lower_face k Tight i tight below even;
    first = (1, i, omega arith, refl, refl);
    second = (0, 0, omega arith, refl, refl);
  },
)

joined_low_odd : (k : ℕ) (Tight : ℕ → ℕ → Type 0) (i : ℕ) → AddUpAtTight k Tight → i < k →
    i % 2 ≡ 1 → AreJoined (2 * k) Tight i 1
joined_low_odd k Tight i tight below odd =
    let b = i - 1 in
    let whole : 1 + b ≡ i = omega arith in (
      Horizontal,
      1,
      b,
      record {
        additive = low_horizontal k Tight b tight (omega arith) (omega arith);
        first = (1, 1 + b, omega arith, refl, ap (λ j. j % (2 * k)) whole);
        second = (0, 1, omega arith, refl, refl);
      },
    )

joined_high_odd : (k : ℕ) (Tight : ℕ → ℕ → Type 0) (i : ℕ) → AddUpAtTight k Tight → k ≤ i →
    i < 2 * k → i % 2 ≡ 1 →
    AreJoined (2 * k) Tight i (2 * k - 1)
joined_high_odd k Tight i tight low high odd = (
  Upper,
  2 * k - 1,
  i,
  record {
    additive = upper_face k Tight i tight low high odd;
    first = (1, i, omega arith, refl, refl);
    second = (0, 2 * k - 1, omega arith, refl, refl);
  },
)

joined_high_even : (k : ℕ) (Tight : ℕ → ℕ → Type 0) (i : ℕ) → AddUpAtTight k Tight → k % 2 ≡ 1 →
    k ≤ i → i < 2 * k → i % 2 ≡ 0 →
    AreJoined (2 * k) Tight i (2 * k - 2)
joined_high_even k Tight i tight k_odd low high even =
    let a = 2 * k - 2 in
    let whole : a + (i + 2) ≡ i + 2 * k = omega arith in (
      Horizontal,
      a,
      i + 2,
      record {
        additive = high_horizontal k Tight i tight k_odd low high even;
        first = (
          1,
          a + (i + 2),
          omega arith,
          refl,
          ap (λ j. j % (2 * k)) whole
              ∙ add-mod_right i (2 * k),
        );
        second = (0, a, omega arith, refl, refl);
      },
    )

-- ---- the number of that interval

-- the intervals 0, 1, q - 2 and q - 1 by the numbers from 0 to 3
pub chosen : ℕ → ℕ → ℕ
chosen k c = (if eqb c 2 then 2 * k - 2 else (if eqb c 3 then 2 * k - 1 else c))

pub class_of : ℕ → ℕ → ℕ
class_of k i = (if leb k i then 2 + i % 2 else i % 2)

class_low : (k i : ℕ) → i < k → class_of k i ≡ i % 2
unfolding class_of
class_low k i below = ap (λ b. (if b then 2 + i % 2 else i % 2)) (lt-leb k i below)

class_high : (k i : ℕ) → k ≤ i → class_of k i ≡ 2 + i % 2
unfolding class_of
class_high k i high = ap (λ b. (if b then 2 + i % 2 else i % 2)) (le-leb k i high)

pub class_below : (k i : ℕ) → class_of k i < 4
class_below k i =
    ⊎_elim (λ below. let e = class_low k i below in omega arith)
    (λ high. let e = class_high k i high in omega arith) (cases_lt i k)

even_or_odd : (i : ℕ) → (i % 2 ≡ 0) ⊎ (i % 2 ≡ 1)
even_or_odd i = ⊎_elim (λ (below : i % 2 < 1). inl (omega arith))
    (λ (high : 1 ≤ i % 2). inr (omega arith)) (cases_lt (i % 2) 1)

-- the interval with the number c is j, and i is joined to it
to_chosen : (k : ℕ) (Tight : ℕ → ℕ → Type 0) (i j c : ℕ) → class_of k i ≡ c → j ≡ chosen k c →
    AreJoined (2 * k) Tight i j →
    LeadsTo (2 * k) Tight (chosen k (class_of k i)) i
to_chosen k Tight i j c e there both =
    subst (λ b. LeadsTo (2 * k) Tight b i) (there ∙ ap (chosen k) (sym e))
    (onward i j both (here j refl))

pub leads_to_chosen : (k : ℕ) (Tight : ℕ → ℕ → Type 0) (i : ℕ) → AddUpAtTight k Tight → k % 2 ≡ 1 →
    i < 2 * k →
    LeadsTo (2 * k) Tight (chosen k (class_of k i)) i
unfolding chosen
leads_to_chosen k Tight i tight k_odd within =
    ⊎_elim
    (λ (below : i < k). ⊎_elim
    (λ even. to_chosen k Tight i 0 0 (class_low k i below ∙ even) refl
    (joined_low_even k Tight i tight below even))
    (λ odd. to_chosen k Tight i 1 1 (class_low k i below ∙ odd) refl
    (joined_low_odd k Tight i tight below odd))
    (even_or_odd i))
    (λ (high : k ≤ i). ⊎_elim
    (λ even. to_chosen k Tight i (2 * k - 2) 2 (class_high k i high ∙ ap (λ p. 2 + p) even) refl
    (joined_high_even k Tight i tight k_odd high within even))
    (λ odd. to_chosen k Tight i (2 * k - 1) 3 (class_high k i high ∙ ap (λ p. 2 + p) odd) refl
    (joined_high_odd k Tight i tight high within odd))
    (even_or_odd i))
    (cases_lt i k)
