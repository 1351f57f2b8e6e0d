-- The first bit of words from a start on.
use Rattle.std.proofs.Common.{◌≡◌, inl, inr, ℕ, ◌+◌, ◌-◌, ◌*◌, ◌/◌, ◌%◌, ◌^◌, ◌<◌, ◌≤◌, List, true, false, ◌&&◌, length, get_or, nat_le, w64, sym, ap, ap₂, ◌∙◌, arith}
use Rattle.std.specs.Prelude.{◌==◌}
use Rattle.std.specs.Int.{bit_at, trailing_zeros}
use Rattle.std.proofs.lemmas.Bool.{cases_lt, and_left, le-leb, lt-leb, and_parts, leb-true, eq-eqb}
use Rattle.std.proofs.lemmas.Nat.Bits.{bit_at-trailing_zeros, bit_at-zero}
use Rattle.gj_loops.specs.IndexSets.{bit_of, has, IsFirst}
use Rattle.gj_loops.specs.declared.index_set.IndexSet.{IndexSet}
use Rattle.gj_loops.proofs.Bits.{bit, bit_of_past}
use Rattle.gj_loops.proofs.Shifts.{bit-shr, bit-shl, bit-shl_low}

-- the word at the place, without its bits before the start; the words before it have none from the
-- start on
pub record IsRest (words : List ℕ) (start place word : ℕ) : Type 0 where
  pub within : place < length words
  pub fits : word < 2 ^ 64
  pub before : (j : ℕ) → start ≤ j → j < 64 * place → bit_of words j ≡ false
  pub bits : (t : ℕ) → t < 64 →
      bit word t ≡ (nat_le start (64 * place + t) && bit_of words (64 * place + t))

-- bit t of the word at a place
bit_at_place : (words : List ℕ) (place t : ℕ) → t < 64 →
    bit (get_or words place 0) t ≡ bit_of words (64 * place + t)
bit_at_place words place t below =
    let quotient : place ≡ (64 * place + t) / 64 = omega arith in
    let rest : t ≡ (64 * place + t) % 64 = omega arith in
    ap₂ (λ m n. bit (get_or words m 0) n) quotient rest

pub rest_begins : (words : List ℕ) (start : ℕ) → start < 64 * length words →
    IsRest words start (start / 64)
    (get_or words (start / 64) 0 / 2 ^ (start % 64) * 2 ^ (start % 64) % 2 ^ 64)
rest_begins words start within = record {
  within = omega arith;
  fits = omega arith;
  before = λ j from below. absurd (omega arith);
  bits = λ t below.
      let word = get_or words (start / 64) 0 in
      let r = start % 64 in
      elim (cases_lt t (start % 64)) [
        | inl early ↦ bit-shl_low (word / 2 ^ r) r 64 t below early
            ∙ sym (and_left (nat_le start (64 * (start / 64) + t))
            (bit_of words (64 * (start / 64) + t))
            (lt-leb start (64 * (start / 64) + t) (omega arith)))
        | inr late ↦
            let e : t - start % 64 + start % 64 ≡ t = omega arith in
            bit-shl (word / 2 ^ r) r 64 t below late ∙ bit-shr word r (t - start % 64)
            ∙ ap (bit word) e
            ∙ bit_at_place words (start / 64) t below
            ∙ sym (ap (λ b. b && bit_of words (64 * (start / 64) + t))
            (le-leb start (64 * (start / 64) + t) (omega arith)))
      ];
}

-- no bit from the start on in the words up to one that is 0 then
none_up_to : (words : List ℕ) (start place : ℕ) → IsRest words start place 0 → (j : ℕ) → start ≤ j →
    j < 64 * (place + 1) →
    bit_of words j ≡ false
none_up_to words start place h j from below =
    elim (cases_lt j (64 * place)) [
      | inl earlier ↦ h.before j from earlier
      | inr here ↦
          let e : 64 * place + (j - 64 * place) ≡ j = omega arith in
          let le : nat_le start j ≡ true = le-leb start j from in
          ap (λ b. b && bit_of words j) (sym le)
          ∙ ap (λ k. nat_le start k && bit_of words k) (sym e)
          ∙ sym (h.bits (j - 64 * place) (omega arith))
          ∙ ap (λ k. k == 1) (bit_at-zero (j - 64 * place))
    ]

pub rest_goes_on : (words : List ℕ) (start place : ℕ) → IsRest words start place 0 →
    place + 1 < length words → start < 64 * (place + 1) →
    get_or words (place + 1) 0 < 2 ^ 64 →
    IsRest words start (place + 1) (get_or words (place + 1) 0)
rest_goes_on words start place h within begun fits = record {
  within = within;
  fits = fits;
  before = none_up_to words start place h;
  bits = λ t below. bit_at_place words (place + 1) t below
      ∙ sym (ap (λ b. b && bit_of words (64 * (place + 1) + t))
      (le-leb start (64 * (place + 1) + t) (omega arith)));
}

pub rest_ends : (words : List ℕ) (start place : ℕ) → IsRest words start place 0 →
    length words ≤ place + 1 → (j : ℕ) → start ≤ j →
    bit_of words j ≡ false
rest_ends words start place h last j from =
    elim (cases_lt j (64 * (place + 1))) [
      | inl below ↦ none_up_to words start place h j from below
      | inr past ↦ bit_of_past words j (omega arith)
    ]

pub first_of_rest : (set : IndexSet) (start place word : ℕ) → length set.words ≡ 16 →
    IsRest set.words start place word → 0 < word →
    IsFirst set start (64 * place + trailing_zeros w64 word)
unfolding has
first_of_rest set start place word long h some =
    let k = trailing_zeros w64 word in
    let lowest = bit_at-trailing_zeros w64 word some h.fits in
    let set_bit : bit word (trailing_zeros w64 word) ≡ true =
    eq-eqb (bit_at word (trailing_zeros w64 word)) 1 lowest.1 in
    let both = and_parts (nat_le start (64 * place + k)) (bit_of set.words (64 * place + k))
    (sym (h.bits k lowest.0) ∙ set_bit) in
    let place_fits = h.within in
    record {
      behind = leb-true start (64 * place + k) both.0;
      within = omega (arith, lowest.0);
      found = both.1;
      before = λ j from below.
          elim (cases_lt j (64 * place)) [
            | inl earlier ↦ h.before j from earlier
            | inr here ↦
                let e : 64 * place + (j - 64 * place) ≡ j = omega arith in
                let le : nat_le start j ≡ true = le-leb start j from in
                let t : j - 64 * place < trailing_zeros w64 word = omega arith in
                ap (λ b. b && bit_of set.words j) (sym le)
                ∙ ap (λ i. nat_le start i && bit_of set.words i) (sym e)
                ∙ sym (h.bits (j - 64 * place) (omega (arith, lowest.0)))
                ∙ ap (λ i. i == 1) (lowest.2 (j - 64 * place) t)
          ];
    }
