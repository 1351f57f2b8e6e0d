-- Whole numbers of a field: sums, products and order are those of the whole numbers.
use Rattle.std.proofs.Common.{◌≡◌, ℕ, suc, ◌+◌, ◌-◌, ◌≤◌, ℤ, pos, negsuc, ◌+ℤ◌, ◌≤ℤ◌, ⊎_elim, [], ◌∷◌, refl, sym, subst, subst₂, ap, ◌∙◌, arith}
use Rattle.std.proofs.lemmas.Bool.{cases_lt}
use Rattle.std.proofs.lemmas.Int.{ints}
use Rattle.gj_fields.specs.Fields.{OrderedField, AtMost, number, whole}
use Rattle.gj_fields.proofs.Ring.{ring}
pub use Rattle.gj_fields.proofs.Ring.{whole_plus, whole_times, number_times}
use Rattle.gj_fields.proofs.Ring.Term.{var, nil, unit, neg, ◌⊕◌}
use Rattle.gj_fields.proofs.Order.{le_of_eq, zero_le_one, number_low, number_plus, by_one, by_two, by_three}

-- the part above 0 and the part below
abbrev pub above : ℤ → ℕ
above (pos n) = n
above (negsuc n) = 0

abbrev pub below : ℤ → ℕ
below (pos n) = 0
below (negsuc n) = suc n

pub parts_are : (z : ℤ) → z +ℤ pos (below z) ≡ pos (above z)
parts_are (pos n) = omega (arith, ints)
parts_are (negsuc n) = omega (arith, ints)

module _ {R : Type 0} (K : OrderedField R) where
  open K use {plus, times, zero as o, one as e, negative}

  pub not_one_le_zero : AtMost K e o → ⊥
  not_one_le_zero h = K.different (K.antisymmetric e o h (zero_le_one K))

  pub number_mono : (n m : ℕ) → n ≤ m → AtMost K (number K n) (number K m)
  number_mono n m h =
      let d : (k : ℕ) × (m ≡ n + k) = (m - n, omega arith) in
      subst (AtMost K (number K n)) (sym (ap (number K) d.1 ∙ number_plus K n d.0))
      (by_one K (number K n ∷ number K d.0 ∷ []) (var 0) (var 0 ⊕ var 1) nil (var 1)
      (number_low K d.0) refl)

  pub number_order : (n m : ℕ) → AtMost K (number K n) (number K m) → n ≤ m
  number_order n m h =
      ⊎_elim
      (λ less. absurd (not_one_le_zero
      (by_two K (number K n ∷ number K m ∷ []) unit nil (var 0) (var 1) (var 1 ⊕ unit) (var 0) h
      (number_mono (suc m) n less) refl)))
      (λ most. most)
      (cases_lt m n)

  pub number_injective : (n m : ℕ) → number K n ≡ number K m → n ≡ m
  number_injective n m h =
      let first = number_order n m (le_of_eq K (number K n) (number K m) h) in
      let second = number_order m n (le_of_eq K (number K m) (number K n) (sym h)) in
      omega arith

  pub whole_parts : (z : ℤ) → plus (whole K z) (number K (below z)) ≡ number K (above z)
  whole_parts (pos n) = K.plus_zero (number K n)
  whole_parts (negsuc n) = ring K (number K (suc n) ∷ []) (neg (var 0) ⊕ var 0) nil refl

  pub whole_mono : (x y : ℤ) → x ≤ℤ y → AtMost K (whole K x) (whole K y)
  whole_mono x y h =
      let x_is = parts_are x in
      let y_is = parts_are y in
      let most : above x + below y ≤ above y + below x = omega (arith, ints) in
      let n = number K in
      by_three K (whole K x ∷ whole K y ∷ n (above x) ∷ n (below x) ∷ n (above y) ∷ n (below y)
      ∷ []) (var 0) (var 1)
      (var 2 ⊕ var 5) (var 4 ⊕ var 3) (var 0 ⊕ var 3) (var 2) (var 4) (var 1 ⊕ var 5)
      (subst₂ (AtMost K) (number_plus K (above x) (below y)) (number_plus K (above y) (below x))
      (number_mono _ _ most))
      (le_of_eq K _ _ (whole_parts x)) (le_of_eq K _ _ (sym (whole_parts y))) refl

  pub whole_order : (x y : ℤ) → AtMost K (whole K x) (whole K y) → x ≤ℤ y
  whole_order x y h =
      let x_is = parts_are x in
      let y_is = parts_are y in
      let n = number K in
      let numbers : AtMost K (plus (n (above x)) (n (below y))) (plus (n (above y)) (n (below x))) =
      by_three K (whole K x ∷ whole K y ∷ n (above x) ∷ n (below x) ∷ n (above y) ∷ n (below y)
      ∷ [])
      (var 2 ⊕ var 5) (var 4 ⊕ var 3) (var 0) (var 1) (var 2) (var 0 ⊕ var 3) (var 1 ⊕ var 5)
      (var 4)
      h (le_of_eq K _ _ (sym (whole_parts x))) (le_of_eq K _ _ (whole_parts y)) refl in
      let most = number_order (above x + below y) (above y + below x)
      (subst₂ (AtMost K) (sym (number_plus K (above x) (below y)))
      (sym (number_plus K (above y) (below x))) numbers) in
      omega (arith, ints)
