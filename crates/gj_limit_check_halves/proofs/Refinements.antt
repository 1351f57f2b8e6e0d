-- Halves on a finer grid: their order and scale, and the function's numbers there.
use Rattle.std.proofs.Common.{◌≡◌, ◌≢◌, ◌↔◌, ℕ, zero, suc, ◌+◌, ◌-◌, ◌*◌, ◌/◌, ◌%◌, ◌^◌, ◌≤◌, ◌<◌, ℤ, pos, ◌+ℤ◌, ◌*ℤ◌, Bool, IsTrue, List, All, length, get_or, unsigned_abs, FitsSigned, to_z, of_z, w64, refl, sym, ap, ap₂, subst, subst₂, ◌∙◌, arith}
use mir.Syntax.{w128}
use Rattle.std.proofs.Math.Nat.{mul-lt-mul_of_pos_right}
use Rattle.std.proofs.lemmas.Int.{ints, to_z-of_z}
use Rattle.gj_shape.specs.FirstViolation.{PassesAll}
use Rattle.gj_shape.specs.FunctionData.{FunctionData, IsWithinBounds, function_over, at}
use Rattle.gj_shape.specs.Limits.{IsNumerator}
use Rattle.gj_shape.specs.Refinement.{refined, entry_or_value}
use Rattle.gj_shape.specs.declared.extremality.LimitHalves.{LimitHalves}
use Rattle.gj_shape.specs.declared.extremality.SideNumbers.{SideNumbers}
use Rattle.gj_shape.proofs.AtLemmas.{at_below}
use Rattle.gj_shape.proofs.NumeratorReadings.{small_read}
use Rattle.gj_theory.proofs.Everywhere.{everywhere}
use Rattle.gj_limit_proof.specs.LimitMeaning.{half_of}
use Rattle.gj_limit_proof.specs.LimitRules.{MeetsLimitAverage, PassesAsHalf}
use Rattle.gj_limit_proof.specs.LimitText.{AreLimitHalvesInBounds}
use Rattle.gj_limit_check_halves.specs.declared.half.Half.{Half}
use Rattle.gj_limit_check_halves.specs.Half.{IsBetween, AreNumbersOf, IsHalf, data_of}
use Rattle.gj_limit_check_halves.specs.HalvesOutcome.{IsHalvesRefinement, HasNumberAt, AreSideNumbersInRange}
use Rattle.gj_check.specs.declared.halves.Refinement.{Refinement}
use Rattle.gj_check.proofs.HalvesTests.{same_times, some_times, same_refinement}

-- ---- the rule `average`

-- on one side, by the refinement
abbrev pub AverageOn : FunctionData → Refinement → List ℤ → List ℤ → List ℤ → ℕ → Type 0
AverageOn f r xs first second i = at first i +ℤ at second i
    ≡ pos (2 * r.factor) *ℤ refined f xs r.times i

average_by : (f : FunctionData) (h : LimitHalves) (r : Refinement) (xs first second : List ℤ)
    (i : ℕ) → IsWithinBounds f →
    AreLimitHalvesInBounds h → IsHalvesRefinement f h r → AverageOn f r xs first second i →
    (m c : ℕ) → h.order ≡ f.order * m → h.scale ≡ pos (c * (f.scale * m)) →
    at first i +ℤ at second i ≡ pos (2 * c) *ℤ refined f xs m i
average_by f h r xs first second i l b is e m c order scale =
    let low = b.order_low in
    let same = same_refinement f h.order h.scale r m c l (omega arith) is order scale in
    e ∙ ap₂ (λ k t. pos (2 * k) *ℤ refined f xs t i) same.1 same.0

-- on all sides
pub averages : (f : FunctionData) (h : LimitHalves) (r : Refinement) (i : ℕ) → IsWithinBounds f →
    AreLimitHalvesInBounds h →
    IsHalvesRefinement f h r →
    (AverageOn f r f.left h.first.left h.second.left i
    × AverageOn f r f.value h.first.value h.second.value i
    × AverageOn f r f.right h.first.right h.second.right i) ↔ MeetsLimitAverage f h i
averages f h r i l b is = (
  λ all. record {
    left = average_by f h r f.left h.first.left h.second.left i l b is all.0;
    value = average_by f h r f.value h.first.value h.second.value i l b is all.1;
    right = average_by f h r f.right h.first.right h.second.right i l b is all.2;
  },
  λ m. (
    m.left r.times r.factor is.order is.scale,
    m.value r.times r.factor is.order is.scale,
    m.right r.times r.factor is.order is.scale,
  ),
)

-- ---- what the code reads

-- a number of a half at a point
pub point_read : (xs : List ℤ) (i : ℕ) → HasNumberAt xs i →
    to_z w128 (of_z w128 (get_or xs i (pos 0))) ≡ at xs i
point_read xs i h =
    let is = at_below xs i h.within in
    let low = h.low in
    let high = h.high in
    omega (arith, ints)

pub points_fit : (xs ys : List ℤ) (i : ℕ) (x y : ℤ) → HasNumberAt xs i → HasNumberAt ys i →
    x ≡ at xs i → y ≡ at ys i →
    FitsSigned w128 (x +ℤ y)
points_fit xs ys i x y h k x_is y_is =
    let x_low = h.low in
    let x_high = h.high in
    let y_low = k.low in
    let y_high = k.high in
    omega (arith, ints)

pub points_read : (xs ys : List ℤ) (i : ℕ) (x y : ℤ) → HasNumberAt xs i → HasNumberAt ys i →
    x ≡ at xs i → y ≡ at ys i →
    to_z w128 (of_z w128 (x +ℤ y)) ≡ at xs i +ℤ at ys i
points_read xs ys i x y h k x_is y_is =
    to_z-of_z w128 (x +ℤ y) (points_fit xs ys i x y h k x_is y_is) ∙ ap₂ (λ a b. a +ℤ b) x_is y_is

-- ---- a half

-- its numbers lie from 0 to the scale at every index
numbers_of : (h : Half) (n : ℕ) (xs ys : List ℤ) (scale : ℤ) → h.order ≡ n → h.scale ≡ scale →
    xs ≡ ys → length ys ≡ n → 0 < n →
    ((i : ℕ) → i < n → IsBetween (at ys i) scale) → AreNumbersOf h xs
numbers_of h n xs ys scale order_is scale_is same len some within =
    let all = everywhere (λ x. IsBetween x scale) ys n len some within in
    record {
      length = ap length same ∙ len ∙ sym order_is;
      between = λ i.
          subst₂ (λ x s. IsBetween x s) (sym (ap (λ zs. at zs i) same)) (sym scale_is) (all i);
    }

-- the half as the code makes it
pub record IsMadeOf (f : FunctionData) (h : LimitHalves) (r : Refinement) (s : SideNumbers)
    (half : Half) : Type 0 where
  pub order : half.order ≡ h.order
  pub place : half.place ≡ f.place * r.times
  pub scale : half.scale ≡ h.scale
  pub left : half.left.now ≡ s.left
  pub value : half.value.now ≡ s.value
  pub right : half.right.now ≡ s.right

pub half_made : (f : FunctionData) (h : LimitHalves) (r : Refinement) (s : SideNumbers)
    (half : Half) → IsWithinBounds f →
    AreLimitHalvesInBounds h → IsHalvesRefinement f h r → AreSideNumbersInRange h.order h.scale s →
    IsMadeOf f h r s half → IsHalf half
half_made f h r s half l b is within made =
    let low = b.order_low in
    let high = b.order_high in
    let order = made.order in
    let place = made.place in
    let grid = is.order in
    let below = mul-lt-mul_of_pos_right l.place_high
    (some_times f h.order h.scale r (omega arith) is) in
    let n = h.order in
    record {
      order_low = omega arith;
      order_high = omega arith;
      place_high = omega arith;
      scale_high = let scale = made.scale in let most = b.scale_high in omega (arith, ints);
      left = numbers_of half n half.left.now s.left h.scale made.order made.scale made.left
          within.left_length (omega arith)
          (λ i i_low. ((within.within i i_low).left_low, (within.within i i_low).left_high));
      value = numbers_of half n half.value.now s.value h.scale made.order made.scale made.value
          within.value_length (omega arith)
          (λ i i_low. ((within.within i i_low).value_low, (within.within i i_low).value_high));
      right = numbers_of half n half.right.now s.right h.scale made.order made.scale made.right
          within.right_length (omega arith)
          (λ i i_low. ((within.within i i_low).right_low, (within.within i i_low).right_high));
    }

-- the rule on it by the refinement
pub half_by : (f : FunctionData) (h : LimitHalves) (r : Refinement) (s : SideNumbers)
    (half : Half) → IsWithinBounds f →
    IsHalvesRefinement f h r → IsMadeOf f h r s half → PassesAll (data_of half) ↔ PassesAsHalf f h s
half_by f h r s half l is made =
    let same : data_of half ≡ half_of f r.times h s =
    λ k. function_over (made.order k) (made.place k) (unsigned_abs (made.scale k)) (made.left k)
    (made.value k) (made.right k) in (
      λ passes m order. subst (λ (n : ℕ). PassesAll (half_of f n h s))
          (same_times f h.order h.scale r m l is order) (subst PassesAll same passes),
      λ all. subst PassesAll (sym same) (all r.times is.order),
    )

-- ---- the function on the finer grid

times_turned : (x : ℤ) (m : ℕ) → x *ℤ pos m ≡ pos m *ℤ x
times_turned x m = omega (arith, ints)

refined_here : (f : FunctionData) (xs : List ℤ) (m i : ℕ) → i % m ≡ 0 →
    at xs (i / m) *ℤ pos m ≡ refined f xs m i
refined_here f xs m i e = times_turned (at xs (i / m)) m
    ∙ ap (entry_or_value f xs m (i / m)) (sym e)

between_by : (f : FunctionData) (xs : List ℤ) (m a r : ℕ) → r ≢ 0 →
    at f.right a *ℤ pos (m - r) +ℤ at f.left (a + 1) *ℤ pos r ≡ entry_or_value f xs m a r
between_by f xs m a zero some = absurd (some refl)
between_by f xs m a (suc r) some =
    ap₂ (λ x y. x +ℤ y) (times_turned (at f.right a) (m - suc r))
    (times_turned (at f.left (a + 1)) (suc r))

-- a number of the function, m times
pub refined_read : (f : FunctionData) (xs : List ℤ) (m i : ℕ) (p : ℤ) → i % m ≡ 0 →
    i / m < length xs → All IsNumerator xs →
    p ≡ to_z w64 (of_z w64 (get_or xs (i / m) (pos 0))) *ℤ pos m → unsigned_abs p ≤ 2 ^ 83 →
    to_z w128 (of_z w128 p) ≡ refined f xs m i
refined_read f xs m i p e low small is fits =
    let here = at_below xs (i / m) low in
    let read = small_read (get_or xs (i / m) (pos 0)) (small (i / m) (pos 0) low) ∙ sym here in
    to_z-of_z w128 p (omega (arith, ints)) ∙ is ∙ ap (λ x. x *ℤ pos m) read
    ∙ refined_here f xs m i e

-- the value between two limits, m times
pub between_read : (f : FunctionData) (xs : List ℤ) (m i : ℕ) (x y p q : ℤ) → i % m ≢ 0 →
    IsNumerator x → IsNumerator y →
    x ≡ at f.right (i / m) → y ≡ at f.left (i / m + 1) →
    p ≡ to_z w64 (of_z w64 x) *ℤ pos (m - i % m) →
    q ≡ to_z w64 (of_z w64 y) *ℤ pos (i % m) → unsigned_abs p ≤ 2 ^ 83 → unsigned_abs q ≤ 2 ^ 83 →
    to_z w128 (of_z w128 (to_z w128 (of_z w128 p) +ℤ to_z w128 (of_z w128 q))) ≡ refined f xs m i
between_read f xs m i x y p q some x_small y_small x_is y_is p_is q_is p_fits q_fits =
    let first = p_is ∙ ap (λ z. z *ℤ pos (m - i % m)) (small_read x x_small ∙ x_is) in
    let second = q_is ∙ ap (λ z. z *ℤ pos (i % m)) (small_read y y_small ∙ y_is) in
    let whole : to_z w128 (of_z w128 (to_z w128 (of_z w128 p) +ℤ to_z w128 (of_z w128 q)))
    ≡ p +ℤ q = omega (arith, ints) in
    whole ∙ ap₂ (λ u v. u +ℤ v) first second ∙ between_by f xs m (i / m) (i % m) some

-- the same test of the same lists
pub average_read : (f : FunctionData) (r : Refinement) (i : ℕ) (b : Bool)
    (xs xs' first first' second second' : List ℤ) → xs ≡ xs' →
    first ≡ first' → second ≡ second' → IsTrue b ↔ AverageOn f r xs first second i →
    IsTrue b ↔ AverageOn f r xs' first' second' i
average_read f r i b xs xs' first first' second second' e g h test =
    subst (λ ys. IsTrue b ↔ AverageOn f r ys first' second' i) e
    (subst₂ (λ ys zs. IsTrue b ↔ AverageOn f r xs ys zs i) g h test)
