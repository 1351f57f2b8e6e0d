-- Counted bits.
use Rattle.std.proofs.Common.{◌≡◌, ℕ, zero, suc, ◌+◌, ◌*◌, ◌/◌, ◌%◌, ◌^◌, ◌<◌, ◌≤◌, List, Bool, true, false, get_or, cond, count_ones, refl, sym, ap, ap₂, ◌∙◌, arith}
use Rattle.std.specs.Prelude.{◌==◌}
use Rattle.std.specs.Int.{bit_at}
use Rattle.std.specs.Int.Count.{ones}
use Rattle.std.proofs.Math.Nat.{mod-eq_of_lt}
use Rattle.std.proofs.lemmas.Nat.{mod-pow-add, ones_cat, pow_pos}
use Rattle.std.proofs.lemmas.Nat.Bits.{bit_at-lt}
use Rattle.gj_loops.specs.IndexSets.{bit_of, count_below}
use Rattle.gj_loops.proofs.Bits.{bit}

ones_of_digit : (d : ℕ) → d < 2 → count_ones d ≡ cond (d == 1) 1 0
unfolding ones
ones_of_digit zero h = refl
ones_of_digit (suc zero) h = refl
ones_of_digit (suc (suc d)) h = absurd (omega arith)

mod_below : (w n : ℕ) → w % 2 ^ n < 2 ^ n
mod_below w n = let some = pow_pos n in omega arith

-- one bit more
ones_of_more : (w n : ℕ) →
    count_ones (w % 2 ^ (1 + n)) ≡ cond (bit w n) 1 0 + count_ones (w % 2 ^ n)
ones_of_more w n =
    ap count_ones (mod-pow-add w 1 n) ∙ ones_cat n (w / 2 ^ n % 2) (w % 2 ^ n) (mod_below w n)
    ∙ ap (λ k. k + count_ones (w % 2 ^ n)) (ones_of_digit (bit_at w n) (bit_at-lt w n))

ones_of_none : (w : ℕ) → count_ones (w % 1) ≡ 0
unfolding ones
ones_of_none w = let e : w % 1 ≡ 0 = omega arith in ap count_ones e

-- the bits of word k below the n-th, with those of the words before it
counted_in_word : (words : List ℕ) (k n : ℕ) → n ≤ 64 →
    count_below (bit_of words) (64 * k + n) ≡ count_below (bit_of words) (64 * k) + count_ones
    (get_or words k 0 % 2 ^ n)
unfolding count_below
counted_in_word words k zero h =
    let e : 64 * k + 0 ≡ 64 * k = omega arith in
    let none = ones_of_none (get_or words k 0) in
    ap (count_below (bit_of words)) e ∙ omega arith
counted_in_word words k (suc n) h =
    let e : 64 * k + suc n ≡ suc (64 * k + n) = omega arith in
    let o : suc n ≡ 1 + n = omega arith in
    let quotient : (64 * k + n) / 64 ≡ k = omega arith in
    let rest : (64 * k + n) % 64 ≡ n = omega arith in
    let here = ap₂ {C = ℕ} (λ (i j : ℕ). cond (bit (get_or words i 0) j) 1 0) quotient rest in
    let more = counted_in_word words k n (omega arith) in
    let power = ap (λ m. count_ones (get_or words k 0 % 2 ^ m)) o in
    let last = ones_of_more (get_or words k 0) n in
    ap (count_below (bit_of words)) e ∙ omega (arith, here, more, power, last)

-- one word more
pub counted_words : (words : List ℕ) (k count : ℕ) → get_or words k 0 < 2 ^ 64 →
    count ≡ count_below (bit_of words) (64 * k) →
    count + count_ones (get_or words k 0) ≡ count_below (bit_of words) (64 * (k + 1))
counted_words words k count fits h =
    let e : 64 * (k + 1) ≡ 64 * k + 64 = omega arith in
    let same : get_or words k 0 % 2 ^ 64 ≡ get_or words k 0 = mod-eq_of_lt fits in
    ap₂ (λ (m n : ℕ). m + count_ones n) h (sym same)
    ∙ sym (counted_in_word words k 64 (omega arith))
    ∙ ap (count_below (bit_of words)) (sym e)

pub counted_at_most : (p : ℕ → Bool) (n : ℕ) → count_below p n ≤ n
unfolding count_below
counted_at_most p zero = omega arith
counted_at_most p (suc n) =
    let more = counted_at_most p n in
    elim (p n) as (λ b. cond b 1 0 + count_below p n ≤ suc n)
    [ true ↦ omega arith | false ↦ omega arith ]

pub counted_none : (p : ℕ → Bool) → count_below p 0 ≡ 0
unfolding count_below
counted_none p = refl

pub counted_more : (p : ℕ → Bool) (n : ℕ) → count_below p (n + 1) ≡ cond (p n) 1 0 + count_below p n
unfolding count_below
counted_more p n = let e : n + 1 ≡ suc n = omega arith in ap (count_below p) e

-- if the test fails from a number on, no more are counted
pub counted_past : (p : ℕ → Bool) (n m : ℕ) → ((i : ℕ) → n ≤ i → p i ≡ false) →
    count_below p (n + m) ≡ count_below p n
unfolding count_below
counted_past p n zero none = let e : n + zero ≡ n = omega arith in ap (count_below p) e
counted_past p n (suc m) none =
    let e : n + suc m ≡ suc (n + m) = omega arith in
    let silent = ap (λ b. cond {A = ℕ} b 1 0) (none (n + m) (omega arith)) in
    let before = counted_past p n m none in
    ap (count_below p) e ∙ omega (arith, silent, before)
