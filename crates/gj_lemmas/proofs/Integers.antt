-- The everyday laws of whole numbers: products, orders, absolute values.
use Rattle.std.proofs.Common.{◌≡◌, ℕ, suc, ◌+◌, ◌*◌, ◌<◌, ◌≤◌, ◌≢◌, ◌⊎◌, inl, inr, ℤ, pos, negsuc, ◌+ℤ◌, ◌-ℤ◌, ◌*ℤ◌, neg_ℤ, ◌<ℤ◌, ◌≤ℤ◌, unsigned_abs, sym, ap, ◌∙◌, arith}
use Rattle.std.proofs.Math.Nat.{mul-le-mul_right, le_of_mul-le-mul_right, eq_of_mul-eq-mul_right, mul-lt-mul_of_pos_right, lt_of_mul-lt-mul_right, mul-pos, pos_of_ne-zero}
use Rattle.std.proofs.lemmas.Int.{ints, by_lt_z}
use borrow.Author.Differences.{up, down, same_in, same_out, sum_is_lem, neg_is, product_is}
pub use Rattle.std.proofs.lemmas.Int.{unsigned_abs-mul}
use lib.IntN.{ℤ_discrete}
pub use lib.IntN.{*ℤ_comm as mul_comm_z, +ℤ_assoc as add_assoc_z, +ℤ_comm as add_comm_z, pos-+ℤ-pos, pos-*ℤ-pos}

-- ---- the two parts of a product and of a number turned in sign, for `simp`

up_mul : (x y : ℤ) → up (x *ℤ y) ≡ up x * up y + down x * down y
up_mul x y = (product_is x y).0

down_mul : (x y : ℤ) → down (x *ℤ y) ≡ up x * down y + down x * up y
down_mul x y = (product_is x y).1

up_neg : (x : ℤ) → up (neg_ℤ x) ≡ down x
up_neg x = (neg_is x).0

down_neg : (x : ℤ) → down (neg_ℤ x) ≡ up x
down_neg x = (neg_is x).1

ruleset parts_of = (up_mul, down_mul, up_neg, down_neg)

-- ---- products

-- a product of three factors, bracketed either way
pub mul_assoc_z : (x y z : ℤ) → (x *ℤ y) *ℤ z ≡ x *ℤ (y *ℤ z)
mul_assoc_z x y z = same_in _ _ (simp (up_mul, down_mul) (omega arith))

-- the last two of three factors change places
pub swap_last_z : (x y z : ℤ) → (x *ℤ y) *ℤ z ≡ (x *ℤ z) *ℤ y
swap_last_z x y z = mul_assoc_z x y z ∙ ap (λ w. x *ℤ w) (mul_comm_z y z) ∙ sym (mul_assoc_z x z y)

-- two factors change places before a third
pub mul_left_comm_z : (x y z : ℤ) → x *ℤ (y *ℤ z) ≡ y *ℤ (x *ℤ z)
mul_left_comm_z x y z = same_in _ _ (simp (up_mul, down_mul) (omega arith))

-- two products of two factors regrouped
pub mul_mul_comm_z : (x y z w : ℤ) → (x *ℤ y) *ℤ (z *ℤ w) ≡ (x *ℤ z) *ℤ (y *ℤ w)
mul_mul_comm_z x y z w = same_in _ _ (simp (up_mul, down_mul) (omega arith))

-- a factor goes over a sum, on the left
pub mul_add_z : (x y z : ℤ) → x *ℤ (y +ℤ z) ≡ x *ℤ y +ℤ x *ℤ z
mul_add_z x y z =
    let e = sum_is_lem y z in
    let u = ap (λ n. up x * n) e in
    let d = ap (λ n. down x * n) e in
    omega (arith, ints)

-- a factor goes over a sum, on the right
pub add_mul_z : (x y z : ℤ) → (x +ℤ y) *ℤ z ≡ x *ℤ z +ℤ y *ℤ z
add_mul_z x y z =
    let e = sum_is_lem x y in
    let u = ap (λ n. n * up z) e in
    let d = ap (λ n. n * down z) e in
    omega (arith, ints)

-- a sign comes out of the left factor
pub neg_mul_z : (x y : ℤ) → neg_ℤ x *ℤ y ≡ neg_ℤ (x *ℤ y)
neg_mul_z x y = same_in _ _ (simp parts_of (omega arith))

-- a sign comes out of the right factor
pub mul_neg_z : (x y : ℤ) → x *ℤ neg_ℤ y ≡ neg_ℤ (x *ℤ y)
mul_neg_z x y = same_in _ _ (simp parts_of (omega arith))

-- a factor goes over a difference, on the left
pub mul_sub_z : (x y z : ℤ) → x *ℤ (y -ℤ z) ≡ x *ℤ y -ℤ x *ℤ z
mul_sub_z x y z = mul_add_z x y (neg_ℤ z) ∙ ap (λ w. x *ℤ y +ℤ w) (mul_neg_z x z)

-- a factor goes over a difference, on the right
pub sub_mul_z : (x y z : ℤ) → (x -ℤ y) *ℤ z ≡ x *ℤ z -ℤ y *ℤ z
sub_mul_z x y z = add_mul_z x (neg_ℤ y) z ∙ ap (λ w. x *ℤ z +ℤ w) (neg_mul_z y z)

-- one times a number is the number
pub one_mul_z : (x : ℤ) → pos 1 *ℤ x ≡ x
one_mul_z x = omega (arith, ints)

-- ---- cancelling a factor

-- equal products with one factor that is not zero
pub mul_cancel_right_z : (x y z : ℤ) → x *ℤ z ≡ y *ℤ z → unsigned_abs z ≢ 0 → x ≡ y
mul_cancel_right_z x y (pos n) e some =
    let p = same_out _ _ e in
    let q : (up x + down y) * n ≡ (up y + down x) * n = omega (arith, product_is) in
    same_in x y (eq_of_mul-eq-mul_right n (pos_of_ne-zero some) _ _ q)
mul_cancel_right_z x y (negsuc n) e some =
    let p = same_out _ _ e in
    let q : (up x + down y) * suc n ≡ (up y + down x) * suc n = omega (arith, product_is) in
    same_in x y (eq_of_mul-eq-mul_right (suc n) (omega arith) _ _ q)

-- the same, with the common factor on the left
pub mul_cancel_left_z : (x y z : ℤ) → z *ℤ x ≡ z *ℤ y → unsigned_abs z ≢ 0 → x ≡ y
mul_cancel_left_z x y z e some = mul_cancel_right_z x y z (mul_comm_z x z ∙ e ∙ mul_comm_z z y) some

-- ---- orders and products

-- both sides of x < y times a positive factor, on the right
pub mul_lt_mul_right_z : (x y z : ℤ) → pos 0 <ℤ z → x <ℤ y → (x *ℤ z) <ℤ (y *ℤ z)
mul_lt_mul_right_z x y (pos n) some h =
    let l : up x + down y < up y + down x = omega (arith, ints) in
    let k : 0 < n = omega (arith, ints) in
    let p = mul-lt-mul_of_pos_right l k in
    omega (arith, ints)
mul_lt_mul_right_z x y (negsuc n) some h = omega (arith, ints)

-- a positive factor is cancelled from both sides of <, on the right
pub mul_lt_cancel_right_z : (x y z : ℤ) → pos 0 <ℤ z → (x *ℤ z) <ℤ (y *ℤ z) → x <ℤ y
mul_lt_cancel_right_z x y (pos n) some h =
    let l : (up x + down y) * n < (up y + down x) * n = omega (arith, ints) in
    let p = lt_of_mul-lt-mul_right n l in
    omega (arith, ints)
mul_lt_cancel_right_z x y (negsuc n) some h = omega (arith, ints)

-- both sides of x ≤ y times a factor that is not negative, on the right
pub mul_le_mul_right_z : (x y z : ℤ) → pos 0 ≤ℤ z → x ≤ℤ y → (x *ℤ z) ≤ℤ (y *ℤ z)
mul_le_mul_right_z x y (pos n) some h =
    let l : up x + down y ≤ up y + down x = omega (arith, ints) in
    let p = mul-le-mul_right n l in
    omega (arith, ints)
mul_le_mul_right_z x y (negsuc n) some h = omega (arith, ints)

-- the same, with the factor on the left
pub mul_le_mul_left_z : (x y z : ℤ) → pos 0 ≤ℤ z → x ≤ℤ y → (z *ℤ x) ≤ℤ (z *ℤ y)
mul_le_mul_left_z x y z some h = let p = mul_le_mul_right_z x y z some h in omega (arith, ints)

-- the same, with the factor on the left
pub mul_lt_mul_left_z : (x y z : ℤ) → pos 0 <ℤ z → x <ℤ y → (z *ℤ x) <ℤ (z *ℤ y)
mul_lt_mul_left_z x y z some h = let p = mul_lt_mul_right_z x y z some h in omega (arith, ints)

-- a positive factor is cancelled from both sides of ≤, on the right
pub mul_le_cancel_right_z : (x y z : ℤ) → pos 0 <ℤ z → (x *ℤ z) ≤ℤ (y *ℤ z) → x ≤ℤ y
mul_le_cancel_right_z x y (pos n) some h =
    let l : (up x + down y) * n ≤ (up y + down x) * n = omega (arith, ints) in
    let k : 0 < n = omega (arith, ints) in
    let p = le_of_mul-le-mul_right l k in
    omega (arith, ints)
mul_le_cancel_right_z x y (negsuc n) some h = omega (arith, ints)

-- the same, with the factor on the left
pub mul_lt_cancel_left_z : (x y z : ℤ) → pos 0 <ℤ z → (z *ℤ x) <ℤ (z *ℤ y) → x <ℤ y
mul_lt_cancel_left_z x y z some h = mul_lt_cancel_right_z x y z some (omega (arith, ints))

-- the product of two positive numbers is positive
pub mul_positive_z : (x y : ℤ) → pos 0 <ℤ x → pos 0 <ℤ y → pos 0 <ℤ (x *ℤ y)
mul_positive_z x y p q = let h = mul_lt_mul_right_z (pos 0) x y q p in omega (arith, ints)

-- the product of two numbers that are not negative is not negative
pub mul_nonnegative_z : (x y : ℤ) → pos 0 ≤ℤ x → pos 0 ≤ℤ y → pos 0 ≤ℤ (x *ℤ y)
mul_nonnegative_z x y p q = let h = mul_le_mul_right_z (pos 0) x y q p in omega (arith, ints)

-- from all large multiples, up to a fixed difference, to the numbers themselves
pub le_from_multiples_z : (x y d : ℤ) → ((k : ℕ) → 0 < k → (pos k *ℤ x) ≤ℤ (pos k *ℤ y +ℤ d)) →
    x ≤ℤ y
le_from_multiples_z x y d h = by_lt_z y x (λ l. absurd (too_large l)) (λ l. l)
  where
    too_large : y <ℤ x → ⊥
    too_large l =
        let k = unsigned_abs d + 1 in
        let above = h k (omega arith) in
        let one_more : (y +ℤ pos 1) ≤ℤ x = omega (arith, ints) in
        let below = mul_le_mul_left_z (y +ℤ pos 1) x (pos k) (omega (arith, ints)) one_more in
        let split = mul_add_z (pos k) y (pos 1) in
        omega (arith, ints)

-- ---- absolute values

-- a positive number has a positive absolute value
pub abs_positive_z : (x : ℤ) → pos 0 <ℤ x → 0 < unsigned_abs x
abs_positive_z x h = omega (arith, ints)

-- a number that is not negative is its absolute value
pub pos_abs_z : (z : ℤ) → pos 0 ≤ℤ z → pos (unsigned_abs z) ≡ z
pos_abs_z z h = omega (arith, ints)

-- so it is not 0
pub positive_some_z : (x : ℤ) → pos 0 <ℤ x → unsigned_abs x ≢ 0
positive_some_z x h = let some = abs_positive_z x h in omega arith

-- a product of two numbers that are not 0 is not 0
pub mul_some_z : (x y : ℤ) → unsigned_abs x ≢ 0 → unsigned_abs y ≢ 0 → unsigned_abs (x *ℤ y) ≢ 0
mul_some_z x y x_some y_some h =
    let size = unsigned_abs-mul x y in
    let some = mul-pos (pos_of_ne-zero x_some) (pos_of_ne-zero y_some) in
    omega arith

-- the absolute value of a sum is at most the sum of the absolute values
pub abs_add_z : (x y : ℤ) → unsigned_abs (x +ℤ y) ≤ unsigned_abs x + unsigned_abs y
abs_add_z x y = omega (arith, ints)

-- the absolute value of a difference is at most the sum of the absolute values
pub abs_sub_z : (x y : ℤ) → unsigned_abs (x -ℤ y) ≤ unsigned_abs x + unsigned_abs y
abs_sub_z x y = omega (arith, ints)

-- only zero has the absolute value zero
pub abs_neg_z : (x : ℤ) → unsigned_abs (neg_ℤ x) ≡ unsigned_abs x
abs_neg_z x = omega (arith, ints)

pub abs_zero_z : (x : ℤ) → unsigned_abs x ≡ 0 → x ≡ pos 0
abs_zero_z x e = omega (arith, ints)

-- two whole numbers are equal or not
pub same_or_apart_z : (x y : ℤ) → (x ≡ y) ⊎ (x ≢ y)
same_or_apart_z x y = elim (ℤ_discrete x y) [ yes e ↦ inl e | no n ↦ inr n ]

-- ---- weights

-- a number is 0 if a positive multiple of it is
pub zero_factor_z : (m : ℕ) (x : ℤ) → 0 < m → pos m *ℤ x ≡ pos 0 → x ≡ pos 0
zero_factor_z m x some e = mul_cancel_left_z x (pos 0) (pos m) (e ∙ omega (arith, ints))
    (omega arith)

-- a sum keeps under a weight
pub weighted_sum_z : (m : ℕ) (x y z : ℤ) → x +ℤ y ≡ z → pos m *ℤ x +ℤ pos m *ℤ y ≡ pos m *ℤ z
weighted_sum_z m x y z e = sym (mul_add_z (pos m) x y) ∙ ap (λ w. pos m *ℤ w) e

-- all the weight on the first of two numbers, and on the second
pub first_only_z : (t : ℕ) (x y : ℤ) → pos t *ℤ x ≡ pos t *ℤ x +ℤ pos 0 *ℤ y
first_only_z t x y = omega (arith, ints)

pub second_only_z : (t : ℕ) (x y : ℤ) → pos t *ℤ y ≡ pos 0 *ℤ x +ℤ pos t *ℤ y
second_only_z t x y = omega (arith, ints)
