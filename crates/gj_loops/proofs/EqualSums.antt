-- Sums of signed numbers in lanes, and which are equal to others.
use Rattle.std.proofs.Common.{◌≡◌, ◌↔◌, ℕ, ℤ, pos, ◌+ℤ◌, ◌-ℤ◌, ◌+◌, ◌-◌, ◌*◌, ◌%◌, ◌^◌, ◌<◌, ◌≤◌, List, Bool, true, false, cond, map, length, get_or, replicate, eqb, IsTrue, unsigned_abs, FitsSigned, to_z, of_z, refl, sym, ap, ap₂, ◌∙◌, arith}
use Rattle.std.specs.Prelude.{◌==◌}
use Rattle.std.specs.Simd.Lanes.{zip2, chunk, mask_l, top}
use mir.Syntax.{Width}
use mir.Val.{bits, hbits}
use Rattle.std.specs.Int.{int_wrap, bit_at}
use Rattle.std.proofs.lemmas.Bool.{eqb-true, eq-eqb}
use Rattle.std.proofs.Math.Facts.{Fits-of_z}
use Rattle.std.proofs.lemmas.Int.{ints, to_z-of_z, of_z-to_z, wrapping_add_onto, int_wrap_fits, fits_signed_from_abs}
use Rattle.std.proofs.lemmas.List.{get_or-map, length-map}
use Rattle.std.proofs.lemmas.Nat.{pow_pos}
use Rattle.std.proofs.lemmas.Simd.{tops_compared, mask_l-mod, bit_mask_l, length-zip2, length-replicate, length-chunk, get_or-zip2, get_or-replicate, get_or-chunk}
use Rattle.gj_lemmas.proofs.Integers.{abs_add_z}
use Rattle.gj_loops.specs.Lanes.{IsInRange}

from_digit : (t : Bool) → (cond t 1 0 == 1) ≡ true → t ≡ true
from_digit true e = refl
from_digit false e = e

-- numbers below the bound and the sums of two have room in the width
module _ (w : Width) (bound : ℕ) (room : 2 * bound ≤ 2 ^ hbits w) where
  -- a number of either sign in the range
  abbrev IsInSymmetricRange : ℤ → Type 0
  IsInSymmetricRange x = IsInRange (pos 1 -ℤ pos bound) bound x

  small : {x : ℤ} → IsInSymmetricRange x → unsigned_abs x < bound
  small h = let low = h.0 in let high = h.1 in omega (arith, ints)

  -- the sum of two lanes
  abbrev pub wrapped : ℕ → ℕ → ℕ
  wrapped x y = (x + y) % 2 ^ bits w

  alone_fits : (x : ℤ) → unsigned_abs x < bound → FitsSigned w x
  alone_fits x small = fits_signed_from_abs w x (omega arith)

  sum_fits : (x y : ℤ) → unsigned_abs x < bound → unsigned_abs y < bound → FitsSigned w (x +ℤ y)
  sum_fits x y small_x small_y = fits_signed_from_abs w (x +ℤ y) (omega (arith, abs_add_z x y))

  wrapped_below : (m n : ℕ) → wrapped m n < 2 ^ bits w
  wrapped_below m n = let some = pow_pos (bits w) in omega arith

  of_z_below : (x : ℤ) → unsigned_abs x < bound → of_z w x < 2 ^ bits w
  of_z_below x small = (Fits-of_z (alone_fits x small)).fits

  wrapped_sum : (x y : ℤ) → unsigned_abs x < bound → unsigned_abs y < bound →
      to_z w (wrapped (of_z w x) (of_z w y)) ≡ x +ℤ y
  wrapped_sum x y small_x small_y =
      wrapping_add_onto w (of_z w x) y (of_z_below x small_x) (alone_fits y small_y)
      ∙ ap (λ z. int_wrap w (z +ℤ y)) (to_z-of_z w x (alone_fits x small_x))
      ∙ int_wrap_fits w (x +ℤ y) (sum_fits x y small_x small_y)

  equal_lanes : (x y z : ℤ) → unsigned_abs x < bound → unsigned_abs y < bound →
      unsigned_abs z < bound →
      IsTrue (eqb (wrapped (of_z w x) (of_z w y)) (of_z w z)) ↔ (x +ℤ y ≡ z)
  equal_lanes x y z small_x small_y small_z = (
    λ same. sym (wrapped_sum x y small_x small_y)
        ∙ ap (to_z w) (eqb-true (wrapped (of_z w x) (of_z w y)) (of_z w z) same)
        ∙ to_z-of_z w z (alone_fits z small_z),
    λ same. eq-eqb (wrapped (of_z w x) (of_z w y)) (of_z w z)
        (sym (of_z-to_z w (wrapped (of_z w x) (of_z w y)) (wrapped_below (of_z w x) (of_z w y)))
        ∙ ap (of_z w) (wrapped_sum x y small_x small_y ∙ same)),
  )

  -- bit b of the comparison of 64 sums from a place on
  pub equal_sum_bit : (values sums : List ℤ) (first d : ℤ) (from b : ℕ) → IsInSymmetricRange first →
      IsInSymmetricRange (get_or values (from + b) d) →
      IsInSymmetricRange (get_or sums (from + b) d) → from + 64 ≤ length values →
      from + 64 ≤ length sums → b < 64 →
      IsTrue (bit_at (mask_l (map (top (hbits w)) (zip2 (λ x y. cond (eqb x y) (2 ^ bits w - 1) 0)
      (zip2 wrapped (map (of_z w) (chunk from 64 values)) (replicate 64 (of_z w first)))
      (map (of_z w) (chunk from 64 sums)))) % 2 ^ 64) b == 1)
      ↔ (get_or values (from + b) d +ℤ first ≡ get_or sums (from + b) d)
  equal_sum_bit values sums first d from b small_first small_value small_sum long_values long_sums
      below =
      let xs = map (of_z w) (chunk from 64 values) in
      let ys = replicate 64 (of_z w first) in
      let zs = map (of_z w) (chunk from 64 sums) in
      let some_values : length (chunk from 64 values) ≡ 64 =
      length-chunk from 64 values long_values in
      let some_sums : length (chunk from 64 sums) ≡ 64 = length-chunk from 64 sums long_sums in
      let xs_length : length (map (of_z w) (chunk from 64 values)) ≡ 64 =
      length-map (chunk from 64 values) (of_z w) ∙ some_values in
      let ys_length : length (replicate 64 (of_z w first)) ≡ 64 =
      length-replicate 64 (of_z w first) in
      let zs_length : length (map (of_z w) (chunk from 64 sums)) ≡ 64 =
      length-map (chunk from 64 sums) (of_z w) ∙ some_sums in
      let there = zip2 wrapped xs ys in
      let there_length : length (zip2 wrapped xs ys) ≡ 64 =
      length-zip2 wrapped xs ys (xs_length ∙ sym ys_length) ∙ xs_length in
      let compared_length = length-zip2 eqb there zs (there_length ∙ sym zs_length)
      ∙ there_length in
      let x = get_or values (from + b) d in
      let z = get_or sums (from + b) d in
      let value = get_or-map (of_z w) (chunk from 64 values) b d 0 (omega arith)
      ∙ ap (of_z w) (get_or-chunk from 64 values b d below) in
      let sum = get_or-map (of_z w) (chunk from 64 sums) b d 0 (omega arith)
      ∙ ap (of_z w) (get_or-chunk from 64 sums b d below) in
      let lane = get_or-zip2 wrapped xs ys b 0 0 0 (omega arith) (omega arith)
      ∙ ap₂ wrapped value (get_or-replicate 64 b (of_z w first) 0 below) in
      let test = get_or-zip2 eqb there zs b 0 0 false (omega arith) (omega arith)
      ∙ ap₂ eqb lane sum in
      let word = ap (λ ms. mask_l ms % 2 ^ 64) (tops_compared w eqb there zs)
      ∙ mask_l-mod (zip2 eqb there zs) 64 (omega arith) in
      let all = ap (λ n. bit_at n b == 1) word ∙ ap (λ k. k == 1) (bit_mask_l (zip2 eqb there zs) b)
      ∙ ap (λ t. cond t 1 0 == 1) test in
      let both = equal_lanes x first z (small small_value) (small small_first) (small small_sum) in (
        λ set. both.0 (from_digit (eqb (wrapped (of_z w x) (of_z w first)) (of_z w z))
            (sym all ∙ set)),
        λ same. all ∙ ap (λ t. cond t 1 0 == 1) (both.1 same),
      )
