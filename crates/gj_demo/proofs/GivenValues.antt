-- The function that the values of the demonstration give.
use Rattle.std.proofs.Common.{◌≡◌, ℕ, ◌+◌, ◌*◌, ◌%◌, ◌<◌, ◌≤◌, ℤ, pos, ◌*ℤ◌, List, length, map, get_or, All, refl, sym, ap, subst, ◌∙◌, arith}
use Rattle.std.specs.List.{range_with_len}
use Rattle.std.proofs.Math.Nat.{mul-le-mul_left}
use Rattle.std.proofs.lemmas.Int.{ints}
use Rattle.std.proofs.lemmas.List.{get_or_default}
use Rattle.std.proofs.lemmas.List.FromFn.{get_or-map-range_with_len, length-map-range_with_len}
use Rattle.gj_frac.specs.declared.Frac.{Frac}
use Rattle.gj_frac.specs.Fraction.{IsRatio}
use Rattle.gj_shape.specs.FunctionData.{FunctionData, IsSmallOver, at}
use Rattle.gj_shape.specs.Given.{HasFault, IsGivenBy, AreOver, IsMemory}
use Rattle.gj_shape.specs.declared.faults.ShapeFault.{ShapeFault}
use Rattle.gj_shape.proofs.AtLemmas.{at_below}
use Rattle.gj_family.proofs.Given.{AreFractions, only_memory, over_from_given}
use Rattle.gj_demo.specs.Demo.{IsDemo, demo_number}

-- ---- the numbers as a list

numbers : ℕ → List ℤ
numbers k = map (λ i. pos (demo_number k i)) (range_with_len 0 (2 * k))

numbers_length : (k : ℕ) → length (numbers k) ≡ 2 * k
unfolding numbers
numbers_length k = length-map-range_with_len (λ i. pos (demo_number k i)) 0 (2 * k)

number_in : (k i : ℕ) → i < 2 * k → at (numbers k) i ≡ pos (demo_number k i)
unfolding numbers
number_in k i below =
    let long = numbers_length k in
    at_below (numbers k) i (omega arith)
    ∙ get_or-map-range_with_len (λ j. pos (demo_number k j)) 0 (2 * k) i i (pos 0) below
    (omega arith)

number_small : (k i : ℕ) → i < 2 * k → demo_number k i ≤ 2 * k
number_small k i below =
    let odd : i % 2 ≤ 1 = omega arith in
    let times = mul-le-mul_left k odd in
    omega arith

numbers_small : (k : ℕ) → All (IsSmallOver (2 * k)) (numbers k)
numbers_small k i d below =
    let long = numbers_length k in
    let inside : i < 2 * k = omega arith in
    let entry : get_or (numbers k) i d ≡ pos (demo_number k i) =
    get_or_default (numbers k) i d (pos 0) below ∙ sym (at_below (numbers k) i below)
    ∙ number_in k i inside in
    let small = number_small k i inside in
    subst (IsSmallOver (2 * k)) (sym entry) (omega arith)

-- ---- the fractions

pub record AreDemoValues (k : ℕ) (xs : List Frac) : Type 0 where
  pub some : 0 < k
  pub high : k < 500
  pub length_is : length xs ≡ 2 * k
  pub values_are : AreOver (λ i. pos (demo_number k i)) (2 * k) xs

fractions : (k : ℕ) (xs : List Frac) → AreDemoValues k xs →
    AreFractions (2 * k) (numbers k) (numbers k) xs xs
fractions k xs h =
    let long = numbers_length k in
    let count = h.length_is in
    let some = h.some in
    let high = h.high in
    let are : AreOver (at (numbers k)) (2 * k) xs = λ i x below.
    subst (λ z. IsRatio (get_or xs i x) z (pos (2 * k))) (sym (number_in k i (omega arith)))
    (h.values_are i x below) in
    record {
      some = omega arith;
      lengths = refl;
      low = omega arith;
      high = omega arith;
      limits_small = numbers_small k;
      values_small = numbers_small k;
      limits_length = count ∙ sym long;
      values_length = count ∙ sym long;
      limits_are = are;
      values_are = are;
    }

-- they give the function
pub demo_from_given : (n : ℕ) (xs : List Frac) (f : FunctionData) → AreDemoValues (2 * n + 1) xs →
    IsGivenBy (2 * (2 * n + 1)) (2 * n + 1) xs xs xs f → IsDemo n f
demo_from_given n xs f h given =
    let k = 2 * n + 1 in
    let long = numbers_length k in
    let over = over_from_given k (2 * k) (numbers k) (numbers k) xs xs f (fractions k xs h)
    (subst (λ (q : ℕ). IsGivenBy q k xs xs xs f) (sym long) given) in
    record {
      order = given.order;
      place = given.place;
      left = given.left_is ∙ sym given.value_is;
      right = given.right_is ∙ sym given.value_is;
      value_is = λ i below.
          let inside : i < 2 * k = subst (λ (q : ℕ). i < q) given.order below in
          over.value_is i ∙ ap (λ z. z *ℤ pos f.scale) (number_in k i inside) ∙ omega (arith, ints);
    }

-- and no fault but want of memory
pub demo_only_memory : (k : ℕ) (xs : List Frac) (e : ShapeFault) → AreDemoValues k xs →
    HasFault (2 * k) k xs xs xs e → IsMemory e
demo_only_memory k xs e h fault =
    let long = numbers_length k in
    let some = h.some in
    let high = h.high in
    only_memory k (2 * k) (numbers k) (numbers k) xs xs e (omega arith, omega arith)
    (omega arith, omega arith) (fractions k xs h)
    (subst (λ (q : ℕ). HasFault q k xs xs xs e) (sym long) fault)
