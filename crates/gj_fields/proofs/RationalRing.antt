-- Identities between sums and products of rational numbers, by the normal form of identities
-- between whole numbers. An identity over the atoms x, y and z, each a variable or any other term,
-- is one line: by_ring_q (x ∷ y ∷ z ∷ []) (search ring_q depth 40) refl The two sides may have +,
-- -, *, signs and whole numerals.
use Rattle.std.proofs.Common.{◌≡◌, ℕ, true, eqb, List, pos, negsuc, refl}
use Rattle.gj_lemmas.proofs.Rings.{Ring, Wholes, num, Reading, reading, Readings, SameForm, by_form, read_plus, read_times, read_both, read_0, read_1, read_2, read_3, read_4, read_5, read_6, read_7, read_8, read_9, read_10, read_11, read_12, read_13}
use Rattle.gj_fields.specs.Rational.{Rational, whole, ◌+ℚ◌, ◌*ℚ◌, neg_ℚ}
use Rattle.gj_fields.proofs.RationalLaws.{add_assoc_q, add_comm_q, add_zero_q, add_neg_q, mul_comm_q, mul_assoc_q, mul_one_q, mul_add_q, whole_add, whole_mul}

abbrev pub rational_ring : Ring Rational
rational_ring = record {
  zero = whole (pos 0);
  one = whole (pos 1);
  plus = λ x y. x +ℚ y;
  times = λ x y. x *ℚ y;
  negative = λ x. neg_ℚ x;
  plus_associates = add_assoc_q;
  plus_commutes = add_comm_q;
  plus_zero = add_zero_q;
  plus_negative = add_neg_q;
  times_associates = mul_assoc_q;
  times_commutes = mul_comm_q;
  times_one = mul_one_q;
  times_plus = mul_add_q;
}

abbrev pub rationals : Wholes rational_ring
rationals = record {
  whole = λ z. whole z;
  whole_zero = refl;
  whole_one = refl;
  whole_plus = whole_add;
  whole_times = whole_mul;
}

-- ---- reading an expression off a number

module _ {atoms : List Rational} where
  abbrev pub read_add : {x y : Rational} → Reading rationals atoms x →
      Reading rationals atoms y → Reading rationals atoms (x +ℚ y)
  read_add r s = read_plus r s

  abbrev pub read_mul : {x y : Rational} → Reading rationals atoms x →
      Reading rationals atoms y → Reading rationals atoms (x *ℚ y)
  read_mul r s = read_times r s

  -- a numeral: at a variable the test does not compute
  abbrev pub read_pos : (n : ℕ) → eqb n n ≡ true → Reading rationals atoms (whole (pos n))
  read_pos n h = reading (num (pos n)) refl

  abbrev pub read_negsuc : (n : ℕ) → eqb n n ≡ true → Reading rationals atoms (whole (negsuc n))
  read_negsuc n h = reading (num (negsuc n)) refl

pub ruleset ring_q = (
  read_both,
  read_add,
  read_mul,
  read_pos,
  read_negsuc,
  read_0,
  read_1,
  read_2,
  read_3,
  read_4,
  read_5,
  read_6,
  read_7,
  read_8,
  read_9,
  read_10,
  read_11,
  read_12,
  read_13,
)

-- two sums of products are equal if they have one normal form
pub by_ring_q : (atoms : List Rational) {x y : Rational} → (h : Readings rationals atoms x y) →
    SameForm h → x ≡ y
by_ring_q atoms h form = by_form h form
