-- Half the sum of two functions.
use Rattle.std.proofs.Common.{◌≡◌, ℕ, ◌*◌, ◌%◌, ◌<◌, ◌≤◌, ◌^◌, ℤ, pos, ◌+ℤ◌, ◌*ℤ◌, List, length, All, unsigned_abs, to_z, of_z, refl, sym, ap, ap₂, subst, ◌∙◌, arith}
use Rattle.std.proofs.Math.Nat.{mul-le-mul_right, mul-le-mul_left, mul-pos}
use Rattle.std.proofs.lemmas.Int.{ints, unsigned_abs-mul}
use Rattle.gj_frac.specs.declared.Frac.{Frac}
use Rattle.gj_lemmas.proofs.Integers.{abs_add_z}
use Rattle.gj_shape.specs.FunctionData.{FunctionData, IsWithinBounds, at}
use Rattle.gj_shape.specs.Given.{IsSmall, IsGivenBy, AreOver}
use Rattle.gj_shape.specs.Average.{half_sum, AreHalfSums, IsAverageOf}
use Rattle.gj_shape.proofs.AtLemmas.{at_wrapped, at_left_small, at_value_small, at_right_small}
use Rattle.gj_shape.proofs.GivenFractions.{all_small, list_is_at}
use Rattle.gj_shape.proofs.InOrder.{all_from_in_order}
use Rattle.gj_shape.proofs.LeastDenominator.{Divides}
use mir.Syntax.{w128}

-- the product of two scales
pub scales_below : (s o : ℕ) → s < 2 ^ 31 → o < 2 ^ 31 → s * o ≤ 2 ^ 62
scales_below s o h k =
    let low : s ≤ 2 ^ 31 = omega arith in
    let product = mul-le-mul_right o low in
    omega arith

-- twice the product of two scales, as the code computes it
pub double_product : (x y : ℤ) (s o : ℕ) → x ≡ pos s → y ≡ pos o → s < 2 ^ 31 → o < 2 ^ 31 →
    to_z w128 (of_z w128
    (to_z w128 (of_z w128 (pos 2 *ℤ to_z w128 (of_z w128 x))) *ℤ to_z w128 (of_z w128 y)))
    ≡ pos (2 * (s * o))
double_product x y s o e g h k =
    let first : to_z w128 (of_z w128 (pos 2 *ℤ to_z w128 (of_z w128 x))) ≡ pos (2 * s) =
    ap (λ z. to_z w128 (of_z w128 (pos 2 *ℤ to_z w128 (of_z w128 z)))) e ∙ omega (arith, ints) in
    let second : to_z w128 (of_z w128 y) ≡ pos o = ap (λ z. to_z w128 (of_z w128 z)) g
    ∙ omega (arith, ints) in
    let below = scales_below s o h k in
    let whole : pos (2 * s) *ℤ pos o ≡ pos (2 * (s * o)) = ap pos (omega arith) in
    ap₂ (λ u v. to_z w128 (of_z w128 (u *ℤ v))) first second
    ∙ ap (λ z. to_z w128 (of_z w128 z)) whole ∙ omega (arith, ints)

-- half a sum goes by the remainder of the index
half_sum_remainder : (f g : FunctionData) (xs ys : List ℤ) (i n : ℕ) → length xs ≡ n →
    length ys ≡ n →
    half_sum f g xs ys (i % n) ≡ half_sum f g xs ys i
half_sum_remainder f g xs ys i n e h =
    ap₂ (λ x y. pos g.scale *ℤ x +ℤ pos f.scale *ℤ y) (at_wrapped xs i (i % n) n e refl)
    (at_wrapped ys i (i % n) n h refl)

-- half a sum of small numbers is small
weighted_small : (x y : ℤ) (s o : ℕ) → unsigned_abs x ≤ 2 ^ 20 * s → unsigned_abs y ≤ 2 ^ 20 * o →
    unsigned_abs (pos o *ℤ x +ℤ pos s *ℤ y) ≤ 2 ^ 20 * (2 * (s * o))
weighted_small x y s o h k =
    let sum = abs_add_z (pos o *ℤ x) (pos s *ℤ y) in
    let first = unsigned_abs-mul (pos o) x in
    let second = unsigned_abs-mul (pos s) y in
    let a = mul-le-mul_left o h in
    let b = mul-le-mul_left s k in
    omega arith

-- the half sums of two functions are small
pub half_sums_small : (f g : FunctionData) (l v r : List Frac) → IsWithinBounds f →
    IsWithinBounds g → AreHalfSums f g l v r →
    All IsSmall l × All IsSmall v × All IsSmall r
half_sums_small f g l v r h k are =
    let some : 0 < 2 * (f.scale * g.scale) = let p = mul-pos h.scale_low k.scale_low in
    omega arith in (
      all_small _ _ l some
          (λ i. weighted_small _ _ f.scale g.scale (at_left_small f i h) (at_left_small g i k))
          are.left_is,
      all_small _ _ v some
          (λ i. weighted_small _ _ f.scale g.scale (at_value_small f i h) (at_value_small g i k))
          are.value_is,
      all_small _ _ r some
          (λ i. weighted_small _ _ f.scale g.scale (at_right_small f i h) (at_right_small g i k))
          are.right_is,
    )

-- the function that the half sums give is the average
pub average_from_given : (f g h : FunctionData) (l v r : List Frac) → IsWithinBounds f →
    IsWithinBounds g → f.order ≡ g.order →
    AreHalfSums f g l v r → IsGivenBy f.order f.place l v r h → IsAverageOf f g h
average_from_given f g h l v r first second same are given =
    let n = f.order in
    let some : 0 < n = let low = first.order_low in omega arith in
    let common = all_from_in_order (Divides h.scale) l v r (are.lengths.1 ∙ sym are.lengths.0)
    (are.lengths.2 ∙ sym are.lengths.0) given.common in
    record {
      order = given.order;
      place = given.place;
      left_is = list_is_at h.scale h.left l _ _ n given.left_is are.lengths.0 some common.0
          are.left_is
          (λ i. half_sum_remainder f g f.left g.left i n first.left_length
          (second.left_length ∙ sym same));
      value_is = list_is_at h.scale h.value v _ _ n given.value_is are.lengths.1 some common.1
          are.value_is
          (λ i. half_sum_remainder f g f.value g.value i n first.value_length
          (second.value_length ∙ sym same));
      right_is = list_is_at h.scale h.right r _ _ n given.right_is are.lengths.2 some common.2
          are.right_is
          (λ i. half_sum_remainder f g f.right g.right i n first.right_length
          (second.right_length ∙ sym same));
    }

-- half sums under other names for the scales and the lists
pub half_sums_as : (f g : FunctionData) (s o : ℕ) (xs xs' ys ys' : List ℤ) (l : List Frac) →
    s ≡ f.scale → o ≡ g.scale →
    xs ≡ xs' → ys ≡ ys' → AreOver (λ i. pos o *ℤ at xs i +ℤ pos s *ℤ at ys i) (2 * (s * o)) l →
    AreOver (half_sum f g xs' ys') (2 * (f.scale * g.scale)) l
half_sums_as f g s o xs xs' ys ys' l a b c d h =
    let over : ℕ → ℕ → List ℤ → List ℤ →
    Type 0 = λ m n ps qs. AreOver (λ i. pos n *ℤ at ps i +ℤ pos m *ℤ at qs i) (2 * (m * n)) l in
    let one = subst (λ n. over n o xs ys) a h in
    let two = subst (λ n. over f.scale n xs ys) b one in
    let three = subst (λ zs. over f.scale g.scale zs ys) c two in
    subst (λ zs. over f.scale g.scale xs' zs) d three
