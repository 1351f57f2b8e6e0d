-- The laws of sums, products and the order of rational numbers.
use Rattle.std.proofs.Common.{◌≡◌, ℤ, pos, negsuc, ◌+ℤ◌, ◌-ℤ◌, ◌*ℤ◌, neg_ℤ, ◌<ℤ◌, refl, sym, ap, ap₂, ◌∙◌, arith}
use Rattle.std.proofs.lemmas.Int.{ints}
use Rattle.gj_lemmas.proofs.Divisors.{same_ratio}
use Rattle.gj_lemmas.proofs.Integers.{mul_positive_z, mul_cancel_right_z, one_mul_z, positive_some_z}
use Rattle.gj_lemmas.proofs.Ratios.{Ratio, IsSum, IsProduct, sums_swapped, sums_regrouped, products_swapped, products_regrouped, products_over_sums}
use Rattle.gj_fields.specs.Rational.{Rational, IsReduced, reduced, over, whole, ◌+ℚ◌, ◌*ℚ◌, neg_ℚ, ◌-ℚ◌}
use lib.IntN.{zero-*ℤ}
use denote.Struct.Props.{props}
use mathlib.Core.HLevel.{is_prop→PathP}

-- ---- equal values are one number

reduced_prop : (n d : ℤ) → IsProp (IsReduced n d)
reduced_prop n d = hlevel props

same_parts : (x y : Rational) → x.top ≡ y.top → x.bottom ≡ y.bottom → x ≡ y
same_parts x y e f = λ i. record {
  top = e i;
  bottom = f i;
  reduced = is_prop→PathP (λ j. IsReduced (e j) (f j)) (λ j. reduced_prop (e j) (f j)) x.reduced
      y.reduced i;
}

pub equal_q : (x y : Rational) → x.top *ℤ y.bottom ≡ y.top *ℤ x.bottom → x ≡ y
equal_q x y h =
    let parts = same_ratio x.top x.bottom y.top y.bottom x.reduced.coprime y.reduced.coprime
    x.reduced.positive y.reduced.positive h in
    same_parts x y parts.0 parts.1

abbrev pub ratio : Rational → Ratio
ratio x = record { top = x.top; bottom = x.bottom; positive = x.reduced.positive }

pub sum_is : (x y : Rational) → IsSum (ratio x) (ratio y) (ratio (x +ℚ y))
unfolding ◌+ℚ◌ over
sum_is x y =
    (reduced (x.top *ℤ y.bottom +ℤ y.top *ℤ x.bottom) (x.bottom *ℤ y.bottom)
    (mul_positive_z x.bottom y.bottom x.reduced.positive y.reduced.positive)).1

pub product_is : (x y : Rational) → IsProduct (ratio x) (ratio y) (ratio (x *ℚ y))
unfolding ◌*ℚ◌ over
product_is x y =
    (reduced (x.top *ℤ y.top) (x.bottom *ℤ y.bottom)
    (mul_positive_z x.bottom y.bottom x.reduced.positive y.reduced.positive)).1

pub whole_top : (z : ℤ) → (whole z).top ≡ z
unfolding whole
whole_top z = refl

pub whole_bottom : (z : ℤ) → (whole z).bottom ≡ pos 1
unfolding whole
whole_bottom z = refl

-- ---- a ring

pub add_comm_q : (x y : Rational) → x +ℚ y ≡ y +ℚ x
add_comm_q x y = equal_q _ _
    (sums_swapped (ratio x) (ratio y) (ratio (x +ℚ y)) (ratio (y +ℚ x)) (sum_is x y) (sum_is y x))

pub add_assoc_q : (x y z : Rational) → (x +ℚ y) +ℚ z ≡ x +ℚ (y +ℚ z)
add_assoc_q x y z =
    equal_q _ _ (sums_regrouped (ratio x) (ratio y) (ratio z) (ratio (x +ℚ y))
    (ratio ((x +ℚ y) +ℚ z)) (ratio (y +ℚ z)) (ratio (x +ℚ (y +ℚ z)))
    (sum_is x y) (sum_is (x +ℚ y) z) (sum_is y z) (sum_is x (y +ℚ z)))

pub mul_comm_q : (x y : Rational) → x *ℚ y ≡ y *ℚ x
mul_comm_q x y = equal_q _ _
    (products_swapped (ratio x) (ratio y) (ratio (x *ℚ y)) (ratio (y *ℚ x)) (product_is x y)
    (product_is y x))

pub mul_assoc_q : (x y z : Rational) → (x *ℚ y) *ℚ z ≡ x *ℚ (y *ℚ z)
mul_assoc_q x y z =
    equal_q _ _ (products_regrouped (ratio x) (ratio y) (ratio z) (ratio (x *ℚ y))
    (ratio ((x *ℚ y) *ℚ z)) (ratio (y *ℚ z)) (ratio (x *ℚ (y *ℚ z)))
    (product_is x y) (product_is (x *ℚ y) z) (product_is y z) (product_is x (y *ℚ z)))

pub mul_add_q : (x y z : Rational) → x *ℚ (y +ℚ z) ≡ x *ℚ y +ℚ x *ℚ z
mul_add_q x y z =
    equal_q _ _ (products_over_sums (ratio x) (ratio y) (ratio z) (ratio (y +ℚ z))
    (ratio (x *ℚ (y +ℚ z))) (ratio (x *ℚ y)) (ratio (x *ℚ z))
    (ratio (x *ℚ y +ℚ x *ℚ z)) (sum_is y z) (product_is x (y +ℚ z)) (product_is x y)
    (product_is x z) (sum_is (x *ℚ y) (x *ℚ z)))

pub add_mul_q : (x y z : Rational) → (x +ℚ y) *ℚ z ≡ x *ℚ z +ℚ y *ℚ z
add_mul_q x y z = mul_comm_q (x +ℚ y) z ∙ mul_add_q z x y
    ∙ ap₂ (λ a b. a +ℚ b) (mul_comm_q z x) (mul_comm_q z y)

sum_zero : (s b n d : ℤ) → s *ℤ (pos 1 *ℤ d) ≡ (pos 0 *ℤ d +ℤ n *ℤ pos 1) *ℤ b → s *ℤ d ≡ n *ℤ b
sum_zero s b n d e =
    ap (λ z. s *ℤ z) (sym (one_mul_z d)) ∙ e ∙ ap (λ z. z *ℤ b) (omega (arith, ints))

pub zero_add_q : (x : Rational) → whole (pos 0) +ℚ x ≡ x
unfolding whole
zero_add_q x = equal_q _ _ (sum_zero _ _ x.top x.bottom (sum_is (whole (pos 0)) x))

product_one : (s b n d : ℤ) → s *ℤ (pos 1 *ℤ d) ≡ (pos 1 *ℤ n) *ℤ b → s *ℤ d ≡ n *ℤ b
product_one s b n d e = ap (λ z. s *ℤ z) (sym (one_mul_z d)) ∙ e ∙ ap (λ z. z *ℤ b) (one_mul_z n)

pub one_mul_q : (x : Rational) → whole (pos 1) *ℚ x ≡ x
unfolding whole
one_mul_q x = equal_q _ _ (product_one _ _ x.top x.bottom (product_is (whole (pos 1)) x))

product_zero : (s b n d : ℤ) → s *ℤ (pos 1 *ℤ d) ≡ (pos 0 *ℤ n) *ℤ b → pos 0 <ℤ d →
    s *ℤ pos 1 ≡ pos 0 *ℤ b
product_zero s b n d e some =
    let scaled : s *ℤ d ≡ pos 0 *ℤ d = ap (λ z. s *ℤ z) (sym (one_mul_z d)) ∙ e
    ∙ ap (λ z. z *ℤ b) (zero-*ℤ n) ∙ zero-*ℤ b ∙ sym (zero-*ℤ d) in
    let none : s ≡ pos 0 = mul_cancel_right_z s (pos 0) d scaled (positive_some_z d some) in
    omega (arith, ints)

pub zero_mul_q : (x : Rational) → whole (pos 0) *ℚ x ≡ whole (pos 0)
unfolding whole
zero_mul_q x = equal_q _ _
    (product_zero _ _ x.top x.bottom (product_is (whole (pos 0)) x) x.reduced.positive)

pub mul_zero_q : (x : Rational) → x *ℚ whole (pos 0) ≡ whole (pos 0)
mul_zero_q x = mul_comm_q x (whole (pos 0)) ∙ zero_mul_q x

pub add_zero_q : (x : Rational) → x +ℚ whole (pos 0) ≡ x
add_zero_q x = add_comm_q x (whole (pos 0)) ∙ zero_add_q x

pub mul_one_q : (x : Rational) → x *ℚ whole (pos 1) ≡ x
mul_one_q x = mul_comm_q x (whole (pos 1)) ∙ one_mul_q x

-- ---- whole numbers

whole_sum : (s b x y : ℤ) → s *ℤ (pos 1 *ℤ pos 1) ≡ (x *ℤ pos 1 +ℤ y *ℤ pos 1) *ℤ b →
    (x +ℤ y) *ℤ b ≡ s *ℤ pos 1
whole_sum s b x y e = ap (λ z. z *ℤ b) (omega (arith, ints)) ∙ sym e ∙ omega (arith, ints)

pub whole_add : (x y : ℤ) → whole (x +ℤ y) ≡ whole x +ℚ whole y
unfolding whole
whole_add x y = equal_q _ _
    (whole_sum (whole x +ℚ whole y).top (whole x +ℚ whole y).bottom x y
    (sum_is (whole x) (whole y)))

whole_product : (s b x y : ℤ) → s *ℤ (pos 1 *ℤ pos 1) ≡ (x *ℤ y) *ℤ b → (x *ℤ y) *ℤ b ≡ s *ℤ pos 1
whole_product s b x y e = sym e ∙ omega (arith, ints)

pub whole_mul : (x y : ℤ) → whole (x *ℤ y) ≡ whole x *ℚ whole y
unfolding whole
whole_mul x y = equal_q _ _
    (whole_product (whole x *ℚ whole y).top (whole x *ℚ whole y).bottom x y
    (product_is (whole x) (whole y)))

pub whole_neg : (x : ℤ) → whole (neg_ℤ x) ≡ neg_ℚ (whole x)
whole_neg x = ap whole (omega (arith, ints)) ∙ whole_mul (negsuc 0) x

pub whole_sub : (x y : ℤ) → whole (x -ℤ y) ≡ whole x -ℚ whole y
whole_sub x y = ap whole (omega (arith, ints)) ∙ whole_add x (neg_ℤ y)
    ∙ ap (λ w. whole x +ℚ w) (whole_neg y)

pub whole_injective : (x y : ℤ) → whole x ≡ whole y → x ≡ y
unfolding whole
whole_injective x y e = ap (λ q. q.top) e

-- ---- signs

pub add_neg_q : (x : Rational) → x -ℚ x ≡ whole (pos 0)
add_neg_q x =
    ap (λ w. w +ℚ neg_ℚ x) (sym (one_mul_q x))
    ∙ sym (add_mul_q (whole (pos 1)) (whole (negsuc 0)) x)
    ∙ ap (λ w. w *ℚ x) (sym (whole_add (pos 1) (negsuc 0))) ∙ zero_mul_q x

pub neg_mul_q : (x y : Rational) → neg_ℚ x *ℚ y ≡ neg_ℚ (x *ℚ y)
neg_mul_q x y = mul_assoc_q (whole (negsuc 0)) x y
