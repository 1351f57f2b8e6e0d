-- Bits of words, and of lists of words.
use Rattle.std.proofs.Common.{◌≡◌, ◌↔◌, inl, inr, ◌≢◌, ℕ, zero, suc, min, max, ◌+◌, ◌-◌, ◌*◌, ◌/◌, ◌%◌, ◌^◌, ◌<◌, ◌≤◌, List, [], ◌∷◌, Bool, true, false, not, ◌&&◌, ◌||◌, length, get_or, set, replicate, nat_lt, nat_le, bit_and, bit_or, bit_xor, refl, sym, subst, ap, ◌∙◌, arith}
use Rattle.std.proofs.Common.{w64}
use Rattle.std.specs.Prelude.{◌==◌}
use Rattle.std.specs.Simd.Lanes.{zip2}
use Rattle.std.proofs.lemmas.Simd.{length-zip2, length-replicate, get_or-replicate}
use Rattle.std.specs.Int.{bit_at}
use Rattle.std.proofs.lemmas.List.{get_or_past, get_or-set_same, get_or-set_other}
use Rattle.std.proofs.lemmas.Bool.{cases_eq, cases_lt, eq-eqb, ne_eqb, or_right, and_right, lt-ltb, le-ltb, lt-leb, le-leb, ltb-true, and_parts, and_from}
use Rattle.std.proofs.lemmas.Nat.Bits.{bit_at_and, bit_at_or, bit_at_xor, bit_at-lt, bit_at-zero, bit_at_set_same, bit_at_set_other, bit_at_clear_same, bit_at_clear_other, bit_at_ones}
use Rattle.gj_loops.specs.IndexSets.{bit_of, has, no_set}

-- ---- a digit is 0 or 1

min_digit : (x y : ℕ) → x < 2 → y < 2 → (min x y == 1) ≡ ((x == 1) && (y == 1))
min_digit zero zero h k = refl
min_digit zero (suc zero) h k = refl
min_digit zero (suc (suc y)) h k = absurd (omega arith)
min_digit (suc zero) zero h k = refl
min_digit (suc zero) (suc zero) h k = refl
min_digit (suc zero) (suc (suc y)) h k = absurd (omega arith)
min_digit (suc (suc x)) y h k = absurd (omega arith)

max_digit : (x y : ℕ) → x < 2 → y < 2 → (max x y == 1) ≡ ((x == 1) || (y == 1))
max_digit zero zero h k = refl
max_digit zero (suc zero) h k = refl
max_digit zero (suc (suc y)) h k = absurd (omega arith)
max_digit (suc zero) zero h k = refl
max_digit (suc zero) (suc zero) h k = refl
max_digit (suc zero) (suc (suc y)) h k = absurd (omega arith)
max_digit (suc (suc x)) y h k = absurd (omega arith)

less_digit : (x y : ℕ) → x < 2 → y < 2 → (min x ((x + y) % 2) == 1) ≡ ((x == 1) && not (y == 1))
less_digit zero zero h k = refl
less_digit zero (suc zero) h k = refl
less_digit zero (suc (suc y)) h k = absurd (omega arith)
less_digit (suc zero) zero h k = refl
less_digit (suc zero) (suc zero) h k = refl
less_digit (suc zero) (suc (suc y)) h k = absurd (omega arith)
less_digit (suc (suc x)) y h k = absurd (omega arith)

pub or_nothing : (x y : Bool) → y ≡ false → x ≡ (x || y)
or_nothing true y e = refl
or_nothing false y e = sym e

pub and_all : (x y : Bool) → y ≡ true → x ≡ (x && y)
and_all true y e = sym e
and_all false y e = refl

-- ---- a bit of two words

-- whether the bit is set
abbrev pub bit : ℕ → ℕ → Bool
bit n i = bit_at n i == 1

pub bit-and : (a b i : ℕ) → bit (bit_and a b) i ≡ (bit a i && bit b i)
bit-and a b i = ap (λ n. n == 1) (bit_at_and a b i)
    ∙ min_digit (bit_at a i) (bit_at b i) (bit_at-lt a i) (bit_at-lt b i)

pub bit-or : (a b i : ℕ) → bit (bit_or a b) i ≡ (bit a i || bit b i)
bit-or a b i = ap (λ n. n == 1) (bit_at_or a b i)
    ∙ max_digit (bit_at a i) (bit_at b i) (bit_at-lt a i) (bit_at-lt b i)

-- a & (a ^ b) is a without b
pub bit-without : (a b i : ℕ) → bit (bit_and a (bit_xor a b)) i ≡ (bit a i && not (bit b i))
bit-without a b i =
    ap (λ n. n == 1) (bit_at_and a (bit_xor a b) i
    ∙ ap (λ n. min (bit_at a i) n) (bit_at_xor a b i))
    ∙ less_digit (bit_at a i) (bit_at b i) (bit_at-lt a i) (bit_at-lt b i)

-- ---- words by pairs

pub get_or-zip2_zero : (f : ℕ → ℕ → ℕ) → f 0 0 ≡ 0 → (xs ys : List ℕ) → length xs ≡ length ys →
    (i : ℕ) →
    get_or (zip2 f xs ys) i 0 ≡ f (get_or xs i 0) (get_or ys i 0)
get_or-zip2_zero f none [] [] e i = sym none
get_or-zip2_zero f none [] (y ∷ ys) e i = absurd (omega arith)
get_or-zip2_zero f none (x ∷ xs) [] e i = absurd (omega arith)
get_or-zip2_zero f none (x ∷ xs) (y ∷ ys) e zero = refl
get_or-zip2_zero f none (x ∷ xs) (y ∷ ys) e (suc i) = get_or-zip2_zero f none xs ys (omega arith) i

pub bit_of-and : (xs ys : List ℕ) (i : ℕ) → length xs ≡ length ys →
    bit_of (zip2 bit_and xs ys) i ≡ (bit_of xs i && bit_of ys i)
bit_of-and xs ys i e =
    ap (λ n. bit n (i % 64)) (get_or-zip2_zero bit_and refl xs ys e (i / 64))
    ∙ bit-and (get_or xs (i / 64) 0) (get_or ys (i / 64) 0) (i % 64)

pub bit_of-or : (xs ys : List ℕ) (i : ℕ) → length xs ≡ length ys →
    bit_of (zip2 bit_or xs ys) i ≡ (bit_of xs i || bit_of ys i)
bit_of-or xs ys i e =
    ap (λ n. bit n (i % 64)) (get_or-zip2_zero bit_or refl xs ys e (i / 64))
    ∙ bit-or (get_or xs (i / 64) 0) (get_or ys (i / 64) 0) (i % 64)

pub bit_of-without : (xs ys : List ℕ) (i : ℕ) → length xs ≡ length ys →
    bit_of (zip2 bit_and xs (zip2 bit_xor xs ys)) i ≡ (bit_of xs i && not (bit_of ys i))
bit_of-without xs ys i e =
    ap (λ n. bit n (i % 64))
    (get_or-zip2_zero bit_and refl xs (zip2 bit_xor xs ys) (sym (length-zip2 bit_xor xs ys e))
    (i / 64)
    ∙ ap (λ n. bit_and (get_or xs (i / 64) 0) n) (get_or-zip2_zero bit_xor refl xs ys e (i / 64)))
    ∙ bit-without (get_or xs (i / 64) 0) (get_or ys (i / 64) 0) (i % 64)

-- ---- one bit of a list of words

-- no bit is set in no word
pub bit_of_past : (words : List ℕ) (i : ℕ) → length words ≤ i / 64 → bit_of words i ≡ false
bit_of_past words i past = ap (λ n. bit n (i % 64)) (get_or_past words (i / 64) 0 past)
    ∙ ap (λ n. n == 1) (bit_at-zero (i % 64))

pub get_or-zeros : (n i : ℕ) → get_or {A = ℕ} (replicate n 0) i 0 ≡ 0
get_or-zeros zero i = refl
get_or-zeros (suc n) zero = refl
get_or-zeros (suc n) (suc i) = get_or-zeros n i

pub bit_of_zeros : (n i : ℕ) → bit_of (replicate n 0) i ≡ false
bit_of_zeros n i = ap (λ n. bit n (i % 64)) (get_or-zeros n (i / 64))
    ∙ ap (λ n. n == 1) (bit_at-zero (i % 64))

-- ---- a word in the place of another

pub bit_of-set_same : (words : List ℕ) (place v j : ℕ) → j / 64 ≡ place → place < length words →
    bit_of (set words place v) j ≡ bit v (j % 64)
bit_of-set_same words place v j e within =
    ap (λ k. bit (get_or (set words place v) k 0) (j % 64)) e
    ∙ ap (λ w. bit w (j % 64)) (get_or-set_same words place v 0 within)

pub bit_of-set_other : (words : List ℕ) (place v j : ℕ) → j / 64 ≢ place →
    bit_of (set words place v) j ≡ bit_of words j
bit_of-set_other words place v j differ =
    ap (λ w. bit w (j % 64)) (get_or-set_other words place (j / 64) v 0 differ)

pub bit_of-inserted : (words : List ℕ) (i j : ℕ) → i / 64 < length words →
    bit_of (set words (i / 64) (bit_or (get_or words (i / 64) 0) (1 * 2 ^ (i % 64) % 2 ^ 64))) j
    ≡ (bit_of words j || (j == i))
bit_of-inserted words i j within =
    let old = get_or words (i / 64) 0 in
    let v = bit_or old (1 * 2 ^ (i % 64) % 2 ^ 64) in
    elim (cases_eq (j / 64) (i / 64)) [
      | inl e ↦ elim (cases_eq (j % 64) (i % 64)) [
        | inl g ↦
            let whole : j ≡ i = omega arith in
            bit_of-set_same words (i / 64) v j e within ∙ ap (λ k. bit v k) g
            ∙ ap (λ n. n == 1) (bit_at_set_same w64 old (i % 64) (omega arith))
            ∙ sym (or_right (bit_of words j) (j == i) (eq-eqb j i whole))
        | inr d ↦
            let differ : j ≢ i = λ whole. d (ap (λ k. k % 64) whole) in
            bit_of-set_same words (i / 64) v j e within
            ∙ ap (λ n. n == 1) (bit_at_set_other w64 old (i % 64) (omega arith) (j % 64) d)
            ∙ ap (λ k. bit (get_or words k 0) (j % 64)) (sym e)
            ∙ or_nothing (bit_of words j) (j == i) (ne_eqb j i differ)
      ]
      | inr d ↦
          let differ : j ≢ i = λ whole. d (ap (λ k. k / 64) whole) in
          bit_of-set_other words (i / 64) v j d
          ∙ or_nothing (bit_of words j) (j == i) (ne_eqb j i differ)
    ]

pub bit_of-removed : (words : List ℕ) (i j : ℕ) → i / 64 < length words →
    bit_of (set words (i / 64)
    (bit_and (get_or words (i / 64) 0) (2 ^ 64 - 1 - 1 * 2 ^ (i % 64) % 2 ^ 64))) j
    ≡ (bit_of words j && not (j == i))
bit_of-removed words i j within =
    let old = get_or words (i / 64) 0 in
    let v = bit_and old (2 ^ 64 - 1 - 1 * 2 ^ (i % 64) % 2 ^ 64) in
    elim (cases_eq (j / 64) (i / 64)) [
      | inl e ↦ elim (cases_eq (j % 64) (i % 64)) [
        | inl g ↦
            let whole : j ≡ i = omega arith in
            bit_of-set_same words (i / 64) v j e within ∙ ap (λ k. bit v k) g
            ∙ ap (λ n. n == 1) (bit_at_clear_same w64 old (i % 64) (omega arith))
            ∙ sym (and_right (bit_of words j) (not (j == i)) (ap not (eq-eqb j i whole)))
        | inr d ↦
            let differ : j ≢ i = λ whole. d (ap (λ k. k % 64) whole) in
            bit_of-set_same words (i / 64) v j e within
            ∙ ap (λ n. n == 1) (bit_at_clear_other w64 old (i % 64) (omega arith) (j % 64)
            (omega arith) d)
            ∙ ap (λ k. bit (get_or words k 0) (j % 64)) (sym e)
            ∙ and_all (bit_of words j) (not (j == i)) (ap not (ne_eqb j i differ))
      ]
      | inr d ↦
          let differ : j ≢ i = λ whole. d (ap (λ k. k / 64) whole) in
          bit_of-set_other words (i / 64) v j d
          ∙ and_all (bit_of words j) (not (j == i)) (ap not (ne_eqb j i differ))
    ]

-- ---- the lowest indices

-- all bits of 16 words, moved down
pub all_but_those_below : (n i : ℕ) → n ≤ 1024 → bit_of (replicate 16 (2 ^ 64 - 1)) (i + (1024 - n))
    ≡ nat_lt i n
all_but_those_below n i within =
    let k = i + (1024 - n) in
    let long : length {A = ℕ} (replicate 16 (2 ^ 64 - 1)) ≡ 16 =
    length-replicate {A = ℕ} 16 (2 ^ 64 - 1) in
    elim (cases_lt (i + (1024 - n)) 1024) [
      | inl below ↦ ap (λ w. bit w (k % 64))
          (get_or-replicate 16 (k / 64) (2 ^ 64 - 1) 0 (omega arith))
          ∙ ap (λ d. d == 1) (bit_at_ones 64 (k % 64) (omega arith))
          ∙ sym (lt-ltb i n (omega arith))
      | inr past ↦ bit_of_past (replicate 16 (2 ^ 64 - 1)) (i + (1024 - n)) (omega arith)
          ∙ sym (le-ltb i n (omega arith))
    ]

-- from one number on, below another
pub between_bounds : (i from end : ℕ) →
    (nat_lt i end && not (nat_lt i from)) ≡ (nat_le from i && nat_lt i end)
between_bounds i from end =
    elim (cases_lt i from) [
      | inl below ↦ ap (λ b. nat_lt i end && not b) (lt-ltb i from below)
          ∙ and_right (nat_lt i end) (not true) refl
          ∙ sym (ap (λ b. b && nat_lt i end) (lt-leb from i below))
      | inr above ↦ ap (λ b. nat_lt i end && not b) (le-ltb i from above)
          ∙ sym (and_all (nat_lt i end) (not false) refl)
          ∙ sym (ap (λ b. b && nat_lt i end) (le-leb from i above))
    ]

-- ---- words that are made one after another

-- what is said of each bit, one word more
pub word_more : (Q : ℕ → Bool → Type 0) (words : List ℕ) (place v : ℕ) → place < length words →
    ((k b : ℕ) → k < place → b < 64 → Q (64 * k + b) (bit (get_or words k 0) b)) →
    ((b : ℕ) → b < 64 → Q (64 * place + b) (bit v b)) → (k b : ℕ) → k < place + 1 → b < 64 →
    Q (64 * k + b) (bit (get_or (set words place v) k 0) b)
word_more Q words place v within before here k b below inside =
    elim (cases_eq k place) [
      | inl e ↦
          subst (λ w. Q (64 * k + b) (bit w b))
          (sym (ap (λ i. get_or (set words place v) i 0) e
          ∙ get_or-set_same words place v 0 within))
          (subst (λ i. Q (64 * i + b) (bit v b)) (sym e) (here b inside))
      | inr differ ↦
          subst (λ w. Q (64 * k + b) (bit w b)) (sym (get_or-set_other words place k v 0 differ))
          (before k b (omega arith) inside)
    ]

-- if the bits below n tell a property, they do without those from n on
pub words_masked : (P : ℕ → Type 0) (words : List ℕ) (end n b : ℕ) (r : Bool) → n ≤ 64 * end →
    ((k j : ℕ) → k < end → j < 64 → 64 * k + j < n → (bit (get_or words k 0) j ≡ true)
    ↔ P (64 * k + j)) →
    r ≡ (bit_of words b && nat_lt b n) → (r ≡ true) ↔ ((b < n) × P b)
words_masked P words end n b r within each masked =
    let e : 64 * (b / 64) + b % 64 ≡ b = omega arith in (
      λ yes.
          let both = and_parts (bit_of words b) (nat_lt b n) (sym masked ∙ yes) in
          let below = ltb-true b n both.1 in (
            below,
            subst P e ((each (b / 64) (b % 64) (omega arith) (omega arith) (omega arith)).0
                both.0),
          ),
      λ both.
          let below = both.0 in
          masked
          ∙ and_from (bit_of words b) (nat_lt b n)
          ((each (b / 64) (b % 64) (omega arith) (omega arith) (omega arith)).1
          (subst P (sym e) both.1)) (lt-ltb b n below),
    )

-- ---- a set without words

pub none_in_no_set : (i : ℕ) → has no_set i ≡ false
unfolding has
none_in_no_set i = bit_of_past [] i (omega arith)
