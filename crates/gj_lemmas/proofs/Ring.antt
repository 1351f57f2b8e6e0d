-- Identities between sums and products of whole numbers, by a normal form. An identity over the
-- atoms x, y and z, each a variable or any other term, is one line: by_ring (x ∷ y ∷ z ∷ [])
-- (search ring depth 40) refl The two sides may have +, -, *, signs, numerals, and sums and
-- products of naturals under `pos`. There are at most 20 atoms. Where it is refused: `search` finds
-- no proof an atom is missing from the list, or the depth is below the longest sum `search` stops
-- at 1000 lemmas beyond some 25 products: `search ring depth 100 fits 4000` `refl` does not fit the
-- two sides differ: the message shows the two normal forms
use Rattle.std.proofs.Common.{◌≡◌, ℕ, suc, ◌+◌, ◌*◌, true, eqb, List, ℤ, pos, negsuc, ◌+ℤ◌, ◌*ℤ◌, neg_ℤ, refl, ap, ◌∙◌, arith, add-one}
use Rattle.std.proofs.lemmas.Int.{ints}
use Rattle.gj_lemmas.proofs.Integers.{add_assoc_z, add_comm_z, mul_assoc_z, mul_comm_z, mul_add_z, one_mul_z}
use Rattle.gj_lemmas.proofs.Rings.{Ring, Wholes, num, add, Reading, reading, Readings, SameForm, by_form, read_plus, read_times, read_negative, read_both, read_0, read_1, read_2, read_3, read_4, read_5, read_6, read_7, read_8, read_9, read_10, read_11, read_12, read_13, read_14, read_15, read_16, read_17, read_18, read_19}

pub plus_zero_z : (x : ℤ) → x +ℤ pos 0 ≡ x
plus_zero_z x = omega (arith, ints)

pub plus_negative_z : (x : ℤ) → x +ℤ neg_ℤ x ≡ pos 0
plus_negative_z x = omega (arith, ints)

pub times_one_z : (x : ℤ) → x *ℤ pos 1 ≡ x
times_one_z x = mul_comm_z x (pos 1) ∙ one_mul_z x

abbrev pub ring_z : Ring ℤ
ring_z = record {
  zero = pos 0;
  one = pos 1;
  plus = λ x y. x +ℤ y;
  times = λ x y. x *ℤ y;
  negative = neg_ℤ;
  plus_associates = add_assoc_z;
  plus_commutes = add_comm_z;
  plus_zero = plus_zero_z;
  plus_negative = plus_negative_z;
  times_associates = mul_assoc_z;
  times_commutes = mul_comm_z;
  times_one = times_one_z;
  times_plus = mul_add_z;
}

abbrev pub whole_numbers : Wholes ring_z
whole_numbers = record {
  whole = λ z. z;
  whole_zero = refl;
  whole_one = refl;
  whole_plus = λ x y. refl;
  whole_times = λ x y. refl;
}

-- ---- reading an expression off a number

module _ {atoms : List ℤ} where
  -- a sum, a product, a number turned in sign
  abbrev pub read_add : {x y : ℤ} → Reading whole_numbers atoms x →
      Reading whole_numbers atoms y → Reading whole_numbers atoms (x +ℤ y)
  read_add r s = read_plus r s

  abbrev pub read_mul : {x y : ℤ} → Reading whole_numbers atoms x →
      Reading whole_numbers atoms y → Reading whole_numbers atoms (x *ℤ y)
  read_mul r s = read_times r s

  abbrev pub read_neg : {x : ℤ} → Reading whole_numbers atoms x →
      Reading whole_numbers atoms (neg_ℤ x)
  read_neg r = read_negative r

  -- a numeral: at a variable the test does not compute
  abbrev pub read_pos : {n : ℕ} → eqb n n ≡ true → Reading whole_numbers atoms (pos n)
  read_pos {n} h = reading (num (pos n)) refl

  abbrev pub read_negsuc : {n : ℕ} → eqb n n ≡ true → Reading whole_numbers atoms (negsuc n)
  read_negsuc {n} h = reading (num (negsuc n)) refl

  -- a sum, a product and a successor of naturals, which stand under `pos`
  abbrev pub read_pos_add : {m n : ℕ} → Reading whole_numbers atoms (pos m) →
      Reading whole_numbers atoms (pos n) → Reading whole_numbers atoms (pos (m + n))
  read_pos_add r s = read_plus r s

  abbrev pub read_pos_mul : {m n : ℕ} → Reading whole_numbers atoms (pos m) →
      Reading whole_numbers atoms (pos n) → Reading whole_numbers atoms (pos (m * n))
  read_pos_mul r s = read_times r s

  abbrev pub read_pos_suc : {n : ℕ} → Reading whole_numbers atoms (pos n) →
      Reading whole_numbers atoms (pos (suc n))
  read_pos_suc {n} (reading e p) =
      reading (add e (num (pos 1))) (ap (λ v. v +ℤ pos 1) p ∙ ap pos (add-one n))

-- for `search`: how the two sides of an equation are read
pub ruleset ring = (
  read_both,
  read_add,
  read_mul,
  read_neg,
  read_pos,
  read_negsuc,
  read_pos_add,
  read_pos_mul,
  read_pos_suc,
  read_0,
  read_1,
  read_2,
  read_3,
  read_4,
  read_5,
  read_6,
  read_7,
  read_8,
  read_9,
  read_10,
  read_11,
  read_12,
  read_13,
  read_14,
  read_15,
  read_16,
  read_17,
  read_18,
  read_19,
)

-- two sums of products are equal if they have one normal form
pub by_ring : (atoms : List ℤ) {x y : ℤ} → (h : Readings whole_numbers atoms x y) →
    SameForm h → x ≡ y
by_ring atoms h form = by_form h form
