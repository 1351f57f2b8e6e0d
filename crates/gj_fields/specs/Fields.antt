-- Ordered fields, and those in which each number lies between a whole number and the next: the real
-- numbers are one (own).
use Rattle.std.specs.Prelude.{ℕ, zero, suc, ℤ, pos, negsuc, ◌≡◌, ◌≢◌, ◌⊎◌, Bool, true}

-- sums, products and an order on the numbers R, with their laws
pub record OrderedField (R : Type 0) : Type 0 where
  pub zero : R
  pub one : R
  pub plus : R → R → R
  pub negative : R → R
  pub times : R → R → R
  pub inverse : R → R
  pub at_most : R → R → Bool
  pub plus_associates : (x y z : R) → plus (plus x y) z ≡ plus x (plus y z)
  pub plus_commutes : (x y : R) → plus x y ≡ plus y x
  pub plus_zero : (x : R) → plus x zero ≡ x
  pub plus_negative : (x : R) → plus x (negative x) ≡ zero
  pub times_associates : (x y z : R) → times (times x y) z ≡ times x (times y z)
  pub times_commutes : (x y : R) → times x y ≡ times y x
  pub times_one : (x : R) → times x one ≡ x
  pub times_plus : (x y z : R) → times x (plus y z) ≡ plus (times x y) (times x z)
  pub times_inverse : (x : R) → x ≢ zero → times x (inverse x) ≡ one
  pub different : one ≢ zero
  pub total : (x y : R) → (at_most x y ≡ true) ⊎ (at_most y x ≡ true)
  pub antisymmetric : (x y : R) → at_most x y ≡ true → at_most y x ≡ true → x ≡ y
  pub transitive : (x y z : R) → at_most x y ≡ true → at_most y z ≡ true → at_most x z ≡ true
  pub plus_keeps : (x y z : R) → at_most x y ≡ true → at_most (plus x z) (plus y z) ≡ true
  pub times_keeps : (x y : R) → at_most zero x ≡ true → at_most zero y ≡ true →
      at_most zero (times x y) ≡ true

-- x is at most y
abbrev pub AtMost : {R : Type 0} → OrderedField R → R → R → Type 0
AtMost K x y = K.at_most x y ≡ true

-- n as a number of the field
abbrev pub number : {R : Type 0} → OrderedField R → ℕ → R
number K zero = K.zero
number K (suc n) = K.plus (number K n) K.one

abbrev pub whole : {R : Type 0} → OrderedField R → ℤ → R
whole K (pos n) = number K n
whole K (negsuc n) = K.negative (number K (suc n))

-- each number lies between a whole number and the next
pub record HasFloor {R : Type 0} (K : OrderedField R) : Type 0 where
  pub floor : R → ℤ
  pub low : (x : R) → AtMost K (whole K (floor x)) x
  pub high : (x : R) → AtMost K (K.plus (whole K (floor x)) K.one) x → ⊥
