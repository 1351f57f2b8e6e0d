-- The places of LF among 32 bytes, as bits.
use Rattle.std.proofs.Common.{◌≡◌, ◌≢◌, ◌↔◌, ℕ, ◌+◌, ◌-◌, ◌%◌, ◌^◌, ◌<◌, ◌≤◌, Bool, true, false, cond, List, length, get_or, take, drop, map, replicate, inl, inr, eqb, refl, sym, ◌∙◌, ap, arith, length-take, w8, w64}
use mir.Val.{bits, hbits}
use Rattle.std.specs.Int.{bit_at, trailing_zeros}
use Rattle.std.specs.Simd.Lanes.{zip2, mask_l, top}
use Rattle.std.proofs.lemmas.Bool.{cases_lt, eqb-true, eq-eqb}
use Rattle.std.proofs.lemmas.List.{get_or_past}
use Rattle.std.proofs.Math.ListN.{get_or-map}
use Rattle.std.proofs.lemmas.Nat.Bits.{bit_at-trailing_zeros, bit_at-zero}
use Rattle.std.proofs.lemmas.Simd.{bitmask_splat, bit_mask_l, get_or-chunk}
use Rattle.memchr.specs.Find.{Nowhere, NoneBefore, Passes}
use Rattle.gj_lex.specs.Lines.{is_line_feed}

from_digit : (t : Bool) → cond {A = ℕ} t 1 0 ≡ 1 → t ≡ true
from_digit true e = refl
from_digit false e = absurd (omega (arith, e))

-- the bits that a comparison of 32 bytes with LF has
pub compared_bits : (bytes : List ℕ) (k : ℕ) → length bytes ≡ 32 →
    (bit_at (mask_l (map (top (hbits w8))
    (zip2 (λ a b. cond (eqb a b) (2 ^ bits w8 - 1) 0) bytes (replicate 32 10))) % 2 ^ 64) k ≡ 1)
    ↔ (get_or bytes k 0 ≡ 10)
compared_bits bytes k long =
    let bit = ap (λ n. bit_at n k) (bitmask_splat w8 eqb bytes 32 10 long (omega arith))
    ∙ bit_mask_l (map is_line_feed bytes) k
    ∙ ap (λ t. cond {A = ℕ} t 1 0) (get_or-map is_line_feed bytes k 0) in (
      λ set. eqb-true (get_or bytes k 0) 10
          (from_digit (is_line_feed (get_or bytes k 0)) (sym bit ∙ set)),
      λ is. bit ∙ ap (λ t. cond {A = ℕ} t 1 0) (eq-eqb (get_or bytes k 0) 10 is),
    )

-- bits that tell of the 32 bytes from a place on
module _ (text : List ℕ) (from bits : ℕ) (told : (k : ℕ) →
    (bit_at bits k ≡ 1) ↔ (get_or (take 32 (drop from text)) k 0 ≡ 10)) where
  -- an LF among these has its bit
  has_bit : (k : ℕ) → from ≤ k → k < from + 32 → Passes is_line_feed text k →
      bit_at bits (k - from) ≡ 1
  has_bit k low high feed =
      let same : from + (k - from) ≡ k = omega arith in
      (told (k - from)).1
      (get_or-chunk from 32 text (k - from) 0 (omega arith) ∙ ap (λ i. get_or text i 0) same
      ∙ eqb-true (get_or text k 0) 10 feed)

  -- and a bit has its LF
  has_feed : (k : ℕ) → bit_at bits k ≡ 1 → (k < 32) × Passes is_line_feed text (from + k)
  has_feed k set =
      let is = (told k).0 set in
      elim (cases_lt k 32) [
        | inl low ↦ (
          low,
          eq-eqb (get_or text (from + k) 0) 10
              (sym (get_or-chunk from 32 text k 0 low) ∙ is),
        )
        | inr high ↦
            let past = get_or_past (take 32 (drop from text)) k 0
            (omega (arith, length-take 32 (drop from text))) in
            absurd (omega (arith, is, past))
      ]

  -- without a bit there is none
  pub none_among : bits ≡ 0 → Nowhere (Passes is_line_feed text) from (from + 32)
  none_among none k low high feed =
      let one = has_bit k low high feed in
      let zero = ap (λ n. bit_at n (k - from)) none ∙ bit_at-zero (k - from) in
      omega (arith, one, zero)

  -- the lowest bit tells of the first
  pub first_among : bits ≢ 0 → bits < 2 ^ 64 →
      NoneBefore (Passes is_line_feed text) from (from + 32) (from + trailing_zeros w64 bits)
      × Passes is_line_feed text (from + trailing_zeros w64 bits)
  first_among some fits =
      let lowest = bit_at-trailing_zeros w64 bits (omega (arith, some)) fits in
      let at = has_feed (trailing_zeros w64 bits) lowest.1 in (
        record {
          low = omega arith;
          high = let high = at.0 in omega arith;
          before = λ k low high feed.
              let one = has_bit k low (let end = at.0 in omega arith) feed in
              let zero = lowest.2 (k - from) (omega arith) in
              omega (arith, one, zero);
        },
        at.1,
      )
