-- Why three lists of fractions give one function at most.
use Rattle.std.proofs.Common.{◌≡◌, ℕ, ◌*◌, ◌/◌, ◌<◌, ℤ, pos, ◌*ℤ◌, List, ◌++◌, length, map, get_or, All, unsigned_abs, sym, ap, subst, ◌∙◌}
use Rattle.std.proofs.Math.Nat.{div-mul_cancel, div-eq_of_eq-mul_left, dvd-mul_left, mul_assoc, mul_right_comm, mul-one}
use Rattle.std.proofs.lemmas.Nat.Gcd.{dvd_antisymm}
use Rattle.std.proofs.lemmas.List.{length-map}
use Rattle.std.proofs.lemmas.List.Elements.{All-same, All-append, All-map}
use Rattle.std.proofs.lemmas.Int.{unsigned_abs-mul}
use Rattle.std.specs.Int.{◌∣◌}
use Rattle.gj_frac.specs.declared.Frac.{Frac}
use Rattle.gj_frac.specs.Fraction.{numerator, denominator}
use Rattle.gj_lemmas.proofs.Divisors.{cofactor, gcd_exists}
use Rattle.gj_shape.specs.FunctionData.{FunctionData}
use Rattle.gj_shape.specs.Given.{in_order, IsCommonDenominator, IsGivenBy, numerator_over}
use Rattle.gj_shape.proofs.InOrder.{all_from_in_order}
use Rattle.gj_shape.proofs.LeastDenominator.{Divides, denominator_some}

-- if b divides c, t divides each numerator n/b over c t
factor_divides : (n : ℤ) (b c t scale : ℕ) → 0 < b → b ∣ c → scale ≡ c * t →
    t ∣ unsigned_abs (n *ℤ pos (scale / b))
factor_divides n b c t scale some h e =
    let f = c / b in
    let parts : scale ≡ f * t * b = e ∙ ap (λ m. m * t) (sym (div-mul_cancel b h))
    ∙ mul_right_comm f b t in
    let factor : scale / b ≡ f * t = div-eq_of_eq-mul_left some parts in
    let size : unsigned_abs (n *ℤ pos (scale / b)) ≡ unsigned_abs n * f * t =
    unsigned_abs-mul n (pos (scale / b)) ∙ ap (λ m. unsigned_abs n * m) factor
    ∙ sym (mul_assoc (unsigned_abs n) f t) in
    subst (λ m. t ∣ m) (sym size) (dvd-mul_left t (unsigned_abs n * f))

factor_divides_all : (xs : List Frac) (c t scale : ℕ) → All (Divides c) xs → scale ≡ c * t →
    All (λ n. t ∣ unsigned_abs n) (map (numerator_over scale) xs)
factor_divides_all xs c t scale common e =
    All-map (λ n. t ∣ unsigned_abs n) (numerator_over scale) xs
    (λ k d h. let x = get_or xs k d in
    factor_divides (numerator x) (unsigned_abs (denominator x)) c t scale (denominator_some x)
    (common k d h) e)

-- the lengths of the lists that give a function
value_length : (q k : ℕ) (l v r : List Frac) (f : FunctionData) → IsGivenBy q k l v r f →
    length v ≡ length l
value_length q k l v r f h =
    let a = ap length h.left_is ∙ length-map l (numerator_over f.scale) in
    let b = ap length h.value_is ∙ length-map v (numerator_over f.scale) in
    sym b ∙ h.within.value_length ∙ sym h.within.left_length ∙ a

right_length : (q k : ℕ) (l v r : List Frac) (f : FunctionData) → IsGivenBy q k l v r f →
    length r ≡ length l
right_length q k l v r f h =
    let a = ap length h.left_is ∙ length-map l (numerator_over f.scale) in
    let b = ap length h.right_is ∙ length-map r (numerator_over f.scale) in
    sym b ∙ h.within.right_length ∙ sym h.within.left_length ∙ a

-- the scale divides each common denominator
pub scale_is_least : (q k : ℕ) (l v r : List Frac) (f : FunctionData) (m : ℕ) →
    IsGivenBy q k l v r f →
    IsCommonDenominator (in_order l v r) m → f.scale ∣ m
scale_is_least q k l v r f m given common =
    let e = value_length q k l v r f given in
    let g = right_length q k l v r f given in
    let (c, both) = gcd_exists f.scale m in
    let (t, scale_is) = cofactor c f.scale both.0 in
    let shared : IsCommonDenominator (in_order l v r) c =
    λ i d h. both.2 _ (given.common i d h) (common i d h) in
    let parts = all_from_in_order (Divides c) l v r e g shared in
    let P : ℤ → Type 0 = λ n. t ∣ unsigned_abs n in
    let in_left : All P f.left =
    All-same P _ _ given.left_is (factor_divides_all l c t f.scale parts.0 scale_is) in
    let in_value : All P f.value =
    All-same P _ _ given.value_is (factor_divides_all v c t f.scale parts.1 scale_is) in
    let in_right : All P f.right =
    All-same P _ _ given.right_is (factor_divides_all r c t f.scale parts.2 scale_is) in
    let one : t ≡ 1 = given.within.lowest t (subst (λ n. t ∣ n) (sym scale_is) (dvd-mul_left t c))
    (All-append P (f.left ++ f.value) f.right (All-append P f.left f.value in_left in_value)
    in_right) in
    let same : f.scale ≡ c = scale_is ∙ ap (λ n. c * n) one ∙ mul-one c in
    subst (λ n. n ∣ m) (sym same) both.1

-- two functions that the same lists give are equal
pub same_from_given : (q k : ℕ) (l v r : List Frac) (f g : FunctionData) → IsGivenBy q k l v r f →
    IsGivenBy q k l v r g → f ≡ g
same_from_given q k l v r f g h j =
    let scale : f.scale ≡ g.scale = dvd_antisymm (scale_is_least q k l v r f g.scale h j.common)
    (scale_is_least q k l v r g f.scale j h.common) in
    let order : f.order ≡ g.order = h.order ∙ sym j.order in
    let place : f.place ≡ g.place = h.place ∙ sym j.place in
    let left : f.left ≡ g.left = h.left_is ∙ ap (λ s. map (numerator_over s) l) scale
    ∙ sym j.left_is in
    let value : f.value ≡ g.value = h.value_is ∙ ap (λ s. map (numerator_over s) v) scale
    ∙ sym j.value_is in
    let right : f.right ≡ g.right = h.right_is ∙ ap (λ s. map (numerator_over s) r) scale
    ∙ sym j.right_is in
    let with_order : ℕ →
    FunctionData = λ x. record {
      order = x;
      place = f.place;
      scale = f.scale;
      left =
          f.left;
      value = f.value;
      right = f.right;
    } in
    let with_place : ℕ →
    FunctionData = λ x. record {
      order = g.order;
      place = x;
      scale = f.scale;
      left =
          f.left;
      value = f.value;
      right = f.right;
    } in
    let with_scale : ℕ →
    FunctionData = λ x. record {
      order = g.order;
      place = g.place;
      scale = x;
      left =
          f.left;
      value = f.value;
      right = f.right;
    } in
    let with_left : List ℤ →
    FunctionData = λ x. record {
      order = g.order;
      place = g.place;
      scale = g.scale;
      left =
          x;
      value = f.value;
      right = f.right;
    } in
    let with_value : List ℤ →
    FunctionData = λ x. record {
      order = g.order;
      place = g.place;
      scale = g.scale;
      left =
          g.left;
      value = x;
      right = f.right;
    } in
    let with_right : List ℤ →
    FunctionData = λ x. record {
      order = g.order;
      place = g.place;
      scale = g.scale;
      left =
          g.left;
      value = g.value;
      right = x;
    } in
    ap with_order order ∙ ap with_place place ∙ ap with_scale scale ∙ ap with_left left
    ∙ ap with_value value ∙ ap with_right right
