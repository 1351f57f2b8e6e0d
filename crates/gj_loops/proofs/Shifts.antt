-- Bits of words that are shifted.
use Rattle.std.proofs.Common.{◌≡◌, inl, inr, ℕ, zero, suc, ◌+◌, ◌-◌, ◌*◌, ◌/◌, ◌%◌, ◌^◌, ◌<◌, ◌≤◌, List, [], ◌∷◌, ◌++◌, Bool, true, false, ◌&&◌, ◌||◌, nat_le, nat_lt, length, get_or, replicate, bit_or, Fits, w64, refl, sym, ap, ap₂, ◌∙◌, arith}
use Rattle.std.specs.Prelude.{◌==◌, if◌then◌else◌}
use Rattle.std.proofs.lemmas.Bool.{cases_eq, eq-eqb, ne_eqb, cases_lt, and_left, and_right, lt-ltb, le-ltb, lt-leb, le-leb}
use Rattle.std.proofs.lemmas.Nat.{shr-shr, shr_split, pow_pos}
use Rattle.std.proofs.lemmas.Nat.Bits.{bit_at-zero, bit_at_cat_low, bit_at_cat_high, bit_at_above}
use Rattle.std.specs.Simd.Lanes.{zip2, chunk, put_chunk}
use Rattle.std.proofs.lemmas.Simd.{length-zip2, length-replicate, length-chunk, get_or-zip2, get_or-replicate, get_or-chunk, put_chunk_whole}
use Rattle.std.proofs.lemmas.List.{get_or_past, get_or_append_left, get_or-append_right}
use Rattle.gj_loops.specs.IndexSets.{bit_of}
use Rattle.gj_loops.proofs.Bits.{bit, get_or-zeros, bit-or, or_nothing, and_all, get_or-zip2_zero, bit_of_past}

-- a word moved down
pub bit-shr : (x s j : ℕ) → bit (x / 2 ^ s) j ≡ bit x (j + s)
bit-shr x s j =
    let e : s + j ≡ j + s = omega arith in
    ap (λ n. n % 2 == 1) (shr-shr x s j) ∙ ap (λ k. bit x k) e

-- the rest has the lowest bits
pub bit-mod : (n w j : ℕ) → j < w → bit (n % 2 ^ w) j ≡ bit n j
bit-mod n w j below =
    sym (ap (λ k. k == 1) (bit_at_cat_low (n / 2 ^ w) w (n % 2 ^ w) j below))
    ∙ ap (λ k. bit k j) (shr_split n w)

-- a word moved up
pub bit-shl : (x s w j : ℕ) → j < w → s ≤ j → bit (x * 2 ^ s % 2 ^ w) j ≡ bit x (j - s)
bit-shl x s w j below behind =
    let e : x * 2 ^ s ≡ x * 2 ^ s + 0 = omega arith in
    bit-mod (x * 2 ^ s) w j below ∙ ap (λ n. bit n j) e
    ∙ ap (λ k. k == 1) (bit_at_cat_high x s 0 j (pow_pos s) behind)

pub bit-shl_low : (x s w j : ℕ) → j < w → j < s → bit (x * 2 ^ s % 2 ^ w) j ≡ false
bit-shl_low x s w j below before =
    let e : x * 2 ^ s ≡ x * 2 ^ s + 0 = omega arith in
    bit-mod (x * 2 ^ s) w j below ∙ ap (λ n. bit n j) e
    ∙ ap (λ k. k == 1) (bit_at_cat_low x s 0 j before ∙ bit_at-zero j)

-- ---- 64 bits of two words, from bit s of the first on

-- the second word moved up by 64 - s, in two steps
moved_in : (y s j : ℕ) → s < 64 → j < 64 → 64 ≤ j + s →
    bit (y * 2 ^ (63 - s) % 2 ^ 64 * 2 ^ 1 % 2 ^ 64) j ≡ bit y (j + s - 64)
moved_in y s j offset below behind =
    let e : j - 1 - (63 - s) ≡ j + s - 64 = omega arith in
    bit-shl (y * 2 ^ (63 - s) % 2 ^ 64) 1 64 j below (omega arith)
    ∙ bit-shl y (63 - s) 64 (j - 1) (omega arith) (omega arith) ∙ ap (λ k. bit y k) e

not_moved_in : (y s j : ℕ) → s < 64 → j < 64 → j + s < 64 →
    bit (y * 2 ^ (63 - s) % 2 ^ 64 * 2 ^ 1 % 2 ^ 64) j ≡ false
not_moved_in y s j offset below before =
    elim (cases_lt j 1) [
      | inl first ↦ bit-shl_low (y * 2 ^ (63 - s) % 2 ^ 64) 1 64 j below first
      | inr later ↦ bit-shl (y * 2 ^ (63 - s) % 2 ^ 64) 1 64 j below later
          ∙ bit-shl_low y (63 - s) 64 (j - 1) (omega arith) (omega arith)
    ]

false_or : (x y : Bool) → x ≡ false → (x || y) ≡ y
false_or true y e = absurd (cc)
false_or false y e = refl

pub window_low : (x y s j : ℕ) → s < 64 → j < 64 → j + s < 64 →
    bit (bit_or (x / 2 ^ s) (y * 2 ^ (63 - s) % 2 ^ 64 * 2 ^ 1 % 2 ^ 64)) j ≡ bit x (j + s)
window_low x y s j offset below before =
    bit-or (x / 2 ^ s) (y * 2 ^ (63 - s) % 2 ^ 64 * 2 ^ 1 % 2 ^ 64) j
    ∙ sym (or_nothing (bit (x / 2 ^ s) j) (bit (y * 2 ^ (63 - s) % 2 ^ 64 * 2 ^ 1 % 2 ^ 64) j)
    (not_moved_in y s j offset below before))
    ∙ bit-shr x s j

pub window_high : (x y s j : ℕ) → x < 2 ^ 64 → s < 64 → j < 64 → 64 ≤ j + s →
    bit (bit_or (x / 2 ^ s) (y * 2 ^ (63 - s) % 2 ^ 64 * 2 ^ 1 % 2 ^ 64)) j ≡ bit y (j + s - 64)
window_high x y s j fits offset below behind =
    bit-or (x / 2 ^ s) (y * 2 ^ (63 - s) % 2 ^ 64 * 2 ^ 1 % 2 ^ 64) j
    ∙ false_or (bit (x / 2 ^ s) j) (bit (y * 2 ^ (63 - s) % 2 ^ 64 * 2 ^ 1 % 2 ^ 64) j)
    (bit-shr x s j ∙ ap (λ k. k == 1) (bit_at_above x 64 (j + s) fits behind))
    ∙ moved_in y s j offset below behind

-- ---- 1,024 bits of a list of words, from bit s on

abbrev pub shr : ℕ → ℕ → ℕ
shr x s = x / 2 ^ s

abbrev pub shl : ℕ → ℕ → ℕ
shl x s = x * 2 ^ s % 2 ^ 64

moved_word : (f : ℕ → ℕ → ℕ) (xs : List ℕ) (k s : ℕ) → length xs ≡ 16 → k < 16 →
    get_or (zip2 f xs (replicate 16 s)) k 0 ≡ f (get_or xs k 0) s
moved_word f xs k s e below =
    let long = length-replicate 16 s in
    get_or-zip2 f xs (replicate 16 s) k 0 0 0 (omega arith) (omega arith)
    ∙ ap (λ n. f (get_or xs k 0) n) (get_or-replicate 16 k s 0 below)

moved_length : (f : ℕ → ℕ → ℕ) (xs : List ℕ) (s : ℕ) → length xs ≡ 16 →
    length (zip2 f xs (replicate 16 s)) ≡ 16
moved_length f xs s e = length-zip2 f xs (replicate 16 s) (e ∙ sym (length-replicate 16 s)) ∙ e

window_word : (wide : List ℕ) (place s k : ℕ) → place + 17 ≤ length wide → k < 16 →
    get_or (zip2 bit_or (zip2 shr (chunk place 16 wide) (replicate 16 s))
    (zip2 shl (zip2 shl (chunk (place + 1) 16 wide) (replicate 16 (63 - s))) (replicate 16 1))) k 0
    ≡ bit_or (get_or wide (place + k) 0 / 2 ^ s)
    (get_or wide (place + 1 + k) 0 * 2 ^ (63 - s) % 2 ^ 64 * 2 ^ 1 % 2 ^ 64)
window_word wide place s k within below =
    let low = chunk place 16 wide in
    let high = chunk (place + 1) 16 wide in
    let low_length : length (chunk place 16 wide) ≡ 16 = length-chunk place 16 wide (omega arith) in
    let high_length : length (chunk (place + 1) 16 wide) ≡ 16 =
    length-chunk (place + 1) 16 wide (omega arith) in
    let one = zip2 shl high (replicate 16 (63 - s)) in
    let one_length = moved_length shl high (63 - s) high_length in
    let lengths = moved_length shr low s low_length ∙ sym (moved_length shl one 1 one_length) in
    get_or-zip2_zero bit_or refl (zip2 shr low (replicate 16 s))
    (zip2 shl one (replicate 16 1)) lengths k
    ∙ ap₂ bit_or (moved_word shr low k s low_length below
    ∙ ap (λ n. shr n s) (get_or-chunk place 16 wide k 0 below))
    (moved_word shl one k 1 one_length below
    ∙ ap (λ n. shl n 1) (moved_word shl high k (63 - s) high_length below
    ∙ ap (λ n. shl n (63 - s)) (get_or-chunk (place + 1) 16 wide k 0 below)))

pub bit_of-window : (wide : List ℕ) (s i : ℕ) → s / 64 + 17 ≤ length wide →
    ((k : ℕ) → Fits w64 (get_or wide k 0)) → i < 1024 →
    bit_of (zip2 bit_or (zip2 shr (chunk (s / 64) 16 wide) (replicate 16 (s % 64)))
    (zip2 shl (zip2 shl (chunk (s / 64 + 1) 16 wide) (replicate 16 (63 - s % 64)))
    (replicate 16 1))) i ≡ bit_of wide (i + s)
bit_of-window wide s i within fits below =
    let place = s / 64 in
    let k = i / 64 in
    let j = i % 64 in
    let x = get_or wide (s / 64 + i / 64) 0 in
    let y = get_or wide (s / 64 + 1 + i / 64) 0 in
    ap (λ w. bit w j) (window_word wide (s / 64) (s % 64) (i / 64) within (omega arith))
    ∙ elim (cases_lt (i % 64 + s % 64) 64) [
      | inl before ↦
          let quotient : s / 64 + i / 64 ≡ (i + s) / 64 = omega arith in
          let rest : i % 64 + s % 64 ≡ (i + s) % 64 = omega arith in
          window_low x y (s % 64) j (omega arith) (omega arith) before
          ∙ ap₂ (λ m n. bit (get_or wide m 0) n) quotient rest
      | inr behind ↦
          let quotient : s / 64 + 1 + i / 64 ≡ (i + s) / 64 = omega arith in
          let rest : i % 64 + s % 64 - 64 ≡ (i + s) % 64 = omega arith in
          window_high x y (s % 64) j (fits (s / 64 + i / 64)).fits (omega arith)
          (omega arith) behind
          ∙ ap₂ (λ m n. bit (get_or wide m 0) n) quotient rest
    ]

-- ---- each index less 1

-- a word whose bits stand one lower, with the lowest bit of the next word
abbrev pub less : ℕ → ℕ → ℕ
less x y = bit_or (x / 2 ^ 1) (y * 2 ^ 63 % 2 ^ 64)

less_low : (x y j : ℕ) → j < 63 → bit (less x y) j ≡ bit x (j + 1)
less_low x y j before =
    bit-or (x / 2 ^ 1) (y * 2 ^ 63 % 2 ^ 64) j
    ∙ sym (or_nothing (bit (x / 2 ^ 1) j) (bit (y * 2 ^ 63 % 2 ^ 64) j)
    (bit-shl_low y 63 64 j (omega arith) before))
    ∙ bit-shr x 1 j

less_high : (x y j : ℕ) → x < 2 ^ 64 → j ≡ 63 → bit (less x y) j ≡ bit y 0
less_high x y j fits last =
    let e : j - 63 ≡ 0 = omega arith in
    bit-or (x / 2 ^ 1) (y * 2 ^ 63 % 2 ^ 64) j
    ∙ false_or (bit (x / 2 ^ 1) j) (bit (y * 2 ^ 63 % 2 ^ 64) j)
    (bit-shr x 1 j ∙ ap (λ k. k == 1) (bit_at_above x 64 (j + 1) fits (omega arith)))
    ∙ bit-shl y 63 64 j (omega arith) (omega arith) ∙ ap (λ k. bit y k) e

-- the word is made of two words
abbrev pub IsLess : List ℕ → List ℕ → ℕ → Type 0
IsLess xs ys m = get_or ys m 0 ≡ less (get_or xs m 0) (get_or xs (m + 1) 0)

bit_of-less : (xs ys : List ℕ) (i : ℕ) → ((k : ℕ) → Fits w64 (get_or xs k 0)) →
    IsLess xs ys (i / 64) → bit_of ys i ≡ bit_of xs (i + 1)
bit_of-less xs ys i fits is =
    let x = get_or xs (i / 64) 0 in
    let y = get_or xs (i / 64 + 1) 0 in
    ap (λ w. bit w (i % 64)) is
    ∙ elim (cases_lt (i % 64) 63) [
      | inl before ↦
          let quotient : i / 64 ≡ (i + 1) / 64 = omega arith in
          let rest : i % 64 + 1 ≡ (i + 1) % 64 = omega arith in
          less_low x y (i % 64) before ∙ ap₂ (λ m n. bit (get_or xs m 0) n) quotient rest
      | inr behind ↦
          let quotient : i / 64 + 1 ≡ (i + 1) / 64 = omega arith in
          let rest : 0 ≡ (i + 1) % 64 = omega arith in
          less_high x y (i % 64) (fits (i / 64)).fits (omega arith)
          ∙ ap₂ (λ m n. bit (get_or xs m 0) n) quotient rest
    ]

-- the words behind the first of 16
abbrev pub next_words : List ℕ → List ℕ
next_words xs = get_or xs 1 0 ∷ get_or xs 2 0 ∷ get_or xs 3 0 ∷ get_or xs 4 0 ∷ get_or xs 5 0
    ∷ get_or xs 6 0 ∷ get_or xs 7 0 ∷ get_or xs 8 0 ∷ get_or xs 9 0 ∷ get_or xs 10 0
    ∷ get_or xs 11 0 ∷ get_or xs 12 0 ∷ get_or xs 13 0 ∷ get_or xs 14 0 ∷ get_or xs 15 0 ∷ 0 ∷ []

next_word : (xs : List ℕ) (k : ℕ) → length xs ≡ 16 →
    get_or (next_words xs) k 0 ≡ get_or xs (k + 1) 0
next_word xs zero e = refl
next_word xs (suc zero) e = refl
next_word xs (suc (suc zero)) e = refl
next_word xs (suc (suc (suc zero))) e = refl
next_word xs (suc (suc (suc (suc zero)))) e = refl
next_word xs (suc (suc (suc (suc (suc zero))))) e = refl
next_word xs (suc (suc (suc (suc (suc (suc zero)))))) e = refl
next_word xs (suc (suc (suc (suc (suc (suc (suc zero))))))) e = refl
next_word xs (suc (suc (suc (suc (suc (suc (suc (suc zero)))))))) e = refl
next_word xs (suc (suc (suc (suc (suc (suc (suc (suc (suc zero))))))))) e = refl
next_word xs (suc (suc (suc (suc (suc (suc (suc (suc (suc (suc zero)))))))))) e = refl
next_word xs (suc (suc (suc (suc (suc (suc (suc (suc (suc (suc (suc zero))))))))))) e = refl
next_word xs (suc (suc (suc (suc (suc (suc (suc (suc (suc (suc (suc (suc zero)))))))))))) e = refl
next_word xs (suc (suc (suc (suc (suc (suc (suc (suc (suc (suc (suc (suc (suc zero))))))))))))) e =
    refl
next_word xs (suc (suc
    (suc (suc (suc (suc (suc (suc (suc (suc (suc (suc (suc (suc zero)))))))))))))) e = refl
next_word xs (suc (suc
    (suc (suc (suc (suc (suc (suc (suc (suc (suc (suc (suc (suc (suc zero))))))))))))))) e =
    sym (get_or_past xs 16 0 (omega arith))
next_word xs (suc (suc
    (suc (suc (suc (suc (suc (suc (suc (suc (suc (suc (suc (suc (suc (suc k)))))))))))))))) e =
    sym (get_or_past xs ((suc
    (suc (suc (suc (suc (suc (suc (suc (suc (suc (suc (suc (suc (suc (suc (suc k))))))))))))))))
    + 1) 0 (omega arith))

less_word : (xs : List ℕ) (k : ℕ) → length xs ≡ 16 → k < 16 →
    IsLess xs (zip2 bit_or (zip2 shr (chunk 0 16 xs) (replicate 16 1))
    (zip2 shl (next_words xs) (replicate 16 63))) k
less_word xs k e below =
    let low = chunk 0 16 xs in
    let low_length : length (chunk 0 16 xs) ≡ 16 = length-chunk 0 16 xs (omega arith) in
    let lengths = moved_length shr low 1 low_length
    ∙ sym (moved_length shl (next_words xs) 63 refl) in
    let at : 0 + k ≡ k = omega arith in
    get_or-zip2_zero bit_or refl (zip2 shr low (replicate 16 1))
    (zip2 shl (next_words xs) (replicate 16 63)) lengths k
    ∙ ap₂ bit_or (moved_word shr low k 1 low_length below
    ∙ ap (λ n. shr n 1) (get_or-chunk 0 16 xs k 0 below ∙ ap (λ m. get_or xs m 0) at))
    (moved_word shl (next_words xs) k 63 refl below ∙ ap (λ n. shl n 63) (next_word xs k e))

pub bit_of-lower : (xs : List ℕ) (i : ℕ) → length xs ≡ 16 → ((k : ℕ) → Fits w64 (get_or xs k 0)) →
    bit_of (zip2 bit_or (zip2 shr (chunk 0 16 xs) (replicate 16 1))
    (zip2 shl (next_words xs) (replicate 16 63))) i ≡ bit_of xs (i + 1)
bit_of-lower xs i e fits =
    let lower = zip2 bit_or (zip2 shr (chunk 0 16 xs) (replicate 16 1))
    (zip2 shl (next_words xs) (replicate 16 63)) in
    let low = chunk 0 16 xs in
    let low_length : length (chunk 0 16 xs) ≡ 16 = length-chunk 0 16 xs (omega arith) in
    let first = moved_length shr low 1 low_length in
    let long : length lower ≡ 16 =
    length-zip2 bit_or (zip2 shr low (replicate 16 1)) (zip2 shl (next_words xs) (replicate 16 63))
    (first ∙ sym (moved_length shl (next_words xs) 63 refl))
    ∙ first in
    elim (cases_lt i 1024) [
      | inl below ↦ bit_of-less xs lower i fits (less_word xs (i / 64) e (omega arith))
      | inr past ↦ bit_of_past lower i (omega arith) ∙ sym (bit_of_past xs (i + 1) (omega arith))
    ]

-- ---- words with words of zeros behind them, and before them

bit_of-filled : (words zeros : List ℕ) (n i : ℕ) → length zeros ≡ length words →
    bit_of (put_chunk 0 zeros words ++ replicate n 0) i ≡ bit_of words i
bit_of-filled words zeros n i e =
    let whole = put_chunk_whole zeros words e in
    ap (λ ws. bit_of (ws ++ replicate n 0) i) whole
    ∙ elim (cases_lt (i / 64) (length words)) [
      | inl below ↦ ap (λ w. bit w (i % 64))
          (get_or_append_left words (replicate n 0) 0 (i / 64) below)
      | inr past ↦ ap (λ w. bit w (i % 64))
          (get_or-append_right words (replicate n 0) (length words) (i / 64) 0 refl past
          ∙ get_or-zeros n (i / 64 - length words) ∙ sym (get_or_past words (i / 64) 0 past))
    ]

pub bit_of-low : (words : List ℕ) (i : ℕ) → length words ≡ 16 →
    bit_of (put_chunk 0 (replicate 16 0) words ++ replicate 17 0) i ≡ bit_of words i
bit_of-low words i e =
    bit_of-filled words (replicate 16 0) 17 i (length-replicate {A = ℕ} 16 0 ∙ sym e)

bit_of-behind : (zeros words : List ℕ) (i : ℕ) → length zeros ≡ 16 → 1024 ≤ i →
    bit_of (zeros ++ words) i ≡ bit_of words (i - 1024)
bit_of-behind zeros words i e behind =
    let quotient : i / 64 - 16 ≡ (i - 1024) / 64 = omega arith in
    let rest : i % 64 ≡ (i - 1024) % 64 = omega arith in
    ap (λ w. bit w (i % 64)) (get_or-append_right zeros words 16 (i / 64) 0 e (omega arith))
    ∙ ap₂ (λ m n. bit (get_or words m 0) n) quotient rest

bit_of-before : (words : List ℕ) (i : ℕ) → i < 1024 → bit_of (replicate 16 0 ++ words) i ≡ false
bit_of-before words i before =
    let long : length {A = ℕ} (replicate 16 0) ≡ 16 = length-replicate {A = ℕ} 16 0 in
    ap (λ w. bit w (i % 64)) (get_or_append_left (replicate 16 0) words 0 (i / 64) (omega arith)
    ∙ get_or-zeros 16 (i / 64))
    ∙ ap (λ k. k == 1) (bit_at-zero (i % 64))

pub bit_of-high : (n : ℕ) (words : List ℕ) (i s : ℕ) → length words ≡ 16 → s ≤ 1024 →
    bit_of (replicate 16 0 ++ (put_chunk 0 (replicate 16 0) words ++ replicate n 0))
    (i + (1024 - s))
    ≡ (nat_le s i && bit_of words (i - s))
bit_of-high n words i s e within =
    let filled = put_chunk 0 (replicate 16 0) words ++ replicate n 0 in
    elim (cases_lt i s) [
      | inl before ↦ bit_of-before filled (i + (1024 - s)) (omega arith)
          ∙ sym (and_left (nat_le s i) (bit_of words (i - s)) (lt-leb s i before))
      | inr behind ↦
          let place : i + (1024 - s) - 1024 ≡ i - s = omega arith in
          bit_of-behind (replicate 16 0) filled (i + (1024 - s)) (length-replicate {A = ℕ} 16 0)
          (omega arith)
          ∙ bit_of-filled words (replicate 16 0) n (i + (1024 - s) - 1024)
          (length-replicate {A = ℕ} 16 0 ∙ sym e)
          ∙ ap (bit_of words) place ∙ sym (ap (λ b. b && bit_of words (i - s)) (le-leb s i behind))
    ]

pub bit_of-higher : (n : ℕ) (words : List ℕ) (i s : ℕ) → length words ≡ 16 →
    bit_of (replicate 16 0 ++ (put_chunk 0 (replicate 16 0) words ++ replicate n 0))
    (i + (1024 + s)) ≡ bit_of words (i + s)
bit_of-higher n words i s e =
    let filled = put_chunk 0 (replicate 16 0) words ++ replicate n 0 in
    let place : i + (1024 + s) - 1024 ≡ i + s = omega arith in
    bit_of-behind (replicate 16 0) filled (i + (1024 + s)) (length-replicate {A = ℕ} 16 0)
    (omega arith)
    ∙ bit_of-filled words (replicate 16 0) n (i + (1024 + s) - 1024) (length-replicate {A = ℕ} 16 0
    ∙ sym e)
    ∙ ap (bit_of words) place

-- an index below the limit
pub in_limit : (i : ℕ) (b : Bool) → i < 1024 → (nat_lt i 1024 && b) ≡ b
in_limit i b below = ap (λ a. a && b) (lt-ltb i 1024 below)

-- each index and 1, where another index stands at 0
pub moved_by_one : (p : ℕ → Bool) (j start : ℕ) (u r : Bool) →
    u ≡ (nat_lt j 1024 && (nat_le 1 j && p (j - 1))) →
    r ≡ (if j == 0 then p start else u) → r ≡ (nat_lt j 1024 && p (if j == 0 then start else j - 1))
moved_by_one p j start u r up both =
    elim (cases_eq j 0) [
      | inl e ↦
          let first : (j == 0) ≡ true = eq-eqb j 0 e in
          both ∙ ap (λ b. if b then p start else u) first
          ∙ sym (in_limit j _ (omega arith) ∙ ap (λ b. p (if b then start else j - 1)) first)
      | inr d ↦
          let later : (j == 0) ≡ false = ne_eqb j 0 d in
          let le : nat_le 1 j ≡ true = le-leb 1 j (omega arith) in
          both ∙ ap (λ b. if b then p start else u) later ∙ up
          ∙ ap (λ b. nat_lt j 1024 && (b && p (j - 1))) le
          ∙ sym (ap (λ b. nat_lt j 1024 && p (if b then start else j - 1)) later)
    ]

-- ---- turned within a period

-- those below n of which p holds: o: moved up and down, r: below n
pub turned_bits : (p : ℕ → Bool) (i s n : ℕ) (o r : Bool) → n ≤ 1024 →
    o ≡ ((nat_lt i 1024 && (nat_le s i && (p (i - s) && nat_lt (i - s) n)))
    || (p (i + (n - s)) && nat_lt (i + (n - s)) n)) →
    r ≡ (o && nat_lt i n) → s ≤ n →
    r ≡ (nat_lt i n && p (if nat_le s i then i - s else i + (n - s)))
turned_bits p i s n o r within both masked step =
    elim (cases_lt i n) [
      | inr past ↦
          let no : nat_lt i n ≡ false = le-ltb i n past in
          masked ∙ and_right o (nat_lt i n) no
          ∙ sym (and_left (nat_lt i n) (p (if nat_le s i then i - s else i + (n - s))) no)
      | inl inside ↦
          let yes : nat_lt i n ≡ true = lt-ltb i n inside in
          let kept : r ≡ o = masked ∙ sym (and_all o (nat_lt i n) yes) in
          let up = nat_le s i && (p (i - s) && nat_lt (i - s) n) in
          let down = p (i + (n - s)) && nat_lt (i + (n - s)) n in
          let here : o ≡ (up || down) = both ∙ ap (λ b. b || down) (in_limit i up (omega arith)) in
          elim (cases_lt i s) [
            | inl before ↦
                let le : nat_le s i ≡ false = lt-leb s i before in
                let lt : nat_lt (i + (n - s)) n ≡ true = lt-ltb (i + (n - s)) n (omega arith) in
                kept ∙ here ∙ ap (λ b. b || down)
                (and_left (nat_le s i) (p (i - s) && nat_lt (i - s) n) le)
                ∙ sym (and_all (p (i + (n - s))) (nat_lt (i + (n - s)) n) lt)
                ∙ ap₂ (λ b c. b && p (if c then i - s else i + (n - s))) (sym yes) (sym le)
            | inr behind ↦
                let le : nat_le s i ≡ true = le-leb s i behind in
                let lt : nat_lt (i - s) n ≡ true = lt-ltb (i - s) n (omega arith) in
                let past : nat_lt (i + (n - s)) n ≡ false = le-ltb (i + (n - s)) n (omega arith) in
                kept ∙ here ∙ ap (λ b. up || b)
                (and_right (p (i + (n - s))) (nat_lt (i + (n - s)) n) past)
                ∙ sym (or_nothing up false refl) ∙ ap (λ b. b && (p (i - s) && nat_lt (i - s) n)) le
                ∙ sym (and_all (p (i - s)) (nat_lt (i - s) n) lt)
                ∙ ap₂ (λ b c. b && p (if c then i - s else i + (n - s))) (sym yes) (sym le)
          ]
    ]

-- a set moved up, u, and down, d, and both, r, of 1,024 indices
pub both_ways : (p : ℕ → Bool) (i up down : ℕ) (u d r : Bool) →
    (i < 1024 → u ≡ (nat_le up i && p (i - up))) →
    (i < 1024 → d ≡ p (i + down)) → r ≡ (u || d) →
    (1024 ≤ i → (r ≡ false) × (p (i + down) ≡ false)) →
    r ≡ ((nat_lt i 1024 && (nat_le up i && p (i - up))) || p (i + down))
both_ways p i up down u d r higher lower both past =
    elim (cases_lt i 1024) [
      | inl below ↦ both ∙ ap₂ (λ x y. x || y) (higher below ∙ sym (in_limit i _ below))
          (lower below)
      | inr behind ↦ (past behind).0
          ∙ sym (ap₂ (λ x y. x || y)
          (and_left (nat_lt i 1024) (nat_le up i && p (i - up)) (le-ltb i 1024 behind))
          ((past behind).1))
    ]
