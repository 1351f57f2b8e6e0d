-- From the parts of a split to the halves.
use Rattle.std.proofs.Common.{◌≡◌, ◌≢◌, ℕ, inl, inr, ◌*◌, ◌<◌, ◌≤◌, ◌^◌, ℤ, pos, neg_ℤ, ◌+ℤ◌, ◌*ℤ◌, ◌≤ℤ◌, List, length, get_or, map, All, unsigned_abs, refl, sym, ap, subst, ◌∙◌, mul-pos, arith}
use Rattle.std.specs.List.{range_with_len}
use Rattle.std.proofs.Math.Nat.{mul-le-mul_left}
use Rattle.std.proofs.lemmas.Int.{ints}
use Rattle.std.proofs.lemmas.List.Elements.{All-contains}
use Rattle.std.proofs.lemmas.List.FromFn.{fill_by_all, get_or-map-range_with_len, length-map-range_with_len}
use Rattle.gj_frac.specs.Fraction.{Fits}
use Rattle.gj_lemmas.proofs.Integers.{abs_add_z, abs_neg_z, abs_zero_z}
use Rattle.gj_lemmas.proofs.Lists.{All-made}
use Rattle.gj_shape.specs.Faces.{limits_of}
use Rattle.gj_shape.specs.FunctionData.{FunctionData, IsWithinBounds, at}
use Rattle.gj_shape.specs.Refinement.{refined}
use Rattle.gj_shape.specs.Table.{IsMinimal}
use Rattle.gj_shape.specs.declared.extremality.LimitHalves.{LimitHalves}
use Rattle.gj_shape.specs.declared.extremality.SideNumbers.{SideNumbers}
use Rattle.gj_shape.specs.declared.faces.FaceKind.{FaceKind}
use Rattle.gj_shape.proofs.AtLemmas.{at_below}
use Rattle.gj_theory.specs.CornerSlacks.{IsBelowCorners}
use Rattle.gj_jumps.specs.LimitSystem.{Limits}
use Rattle.gj_limit_grids.specs.Grids.{IsLimitPerturbation, IsBelowLimits}
use Rattle.gj_limit_averages.specs.Averages.{AreDifferentParts}
use Rattle.gj_limit_averages.specs.Moved.{IsBoundOf, HasSome, IsMovedBy}
use Rattle.gj_perturb.proofs.SplitParts.{product_at_most}
use Rattle.gj_limit_halves.specs.LeastLimit.{IsLeastLimit}
use Rattle.gj_limit_halves.specs.LimitHalves.{moved_list, moved_sides, AreLimitHalvesOf, half_as_function, AreShownHalves, AreWithinLimits, CanSplitLimits, IsWideSplit}
use Rattle.gj_limit_halves.specs.Moves.{moved_at, AreSmallMoves, AreSmallSides, moved_by}
use Rattle.gj_limit_halves.specs.Sides.{limits_on_sides, AreSidesWithin, IsGreatestOf}
use Rattle.gj_limit_halves.proofs.LeastLimits.{limits_small}
use Rattle.gj_limit_halves.proofs.SideBounds.{IsUpTo, refined_small, left_up_to, value_up_to, right_up_to}

-- ---- what theorems on finer grids say

-- a bound at the corners of faces is one of all limits on the grid
abbrev pub CornersBoundLimits : Type 0
CornersBoundLimits = (f : FunctionData) (m u : ℕ) → IsWithinBounds f → IsMinimal f → 0 < m → 0 < u →
    ((kind : FaceKind) (a b : ℕ) → a < f.order → b < f.order →
    IsBelowCorners m u (limits_of f kind a b)) →
    IsBelowLimits f m u

-- a function moved both ways along a perturbation is the average of what comes out
abbrev pub PerturbationsGiveParts : Type 0
PerturbationsGiveParts = (f : FunctionData) (m u p : ℕ) (w : Limits ℤ) (g h : FunctionData) →
    IsWithinBounds f → IsMinimal f → 0 < m → 0 < p → IsLimitPerturbation f m w →
    IsBelowLimits f m u → IsBoundOf w p → HasSome w → IsMovedBy f m p (pos u) w g →
    IsMovedBy f m p (neg_ℤ (pos u)) w h → AreDifferentParts f m (3 * p) g h

-- ---- sizes

-- the greatest absolute value of numbers that are not all 0 is not 0
size_some : (w : Limits ℤ) (p : ℕ) → IsBoundOf w p → HasSome w → 0 < p
size_some w p h (i, inl some) =
    let most = h.left i in
    let apart : unsigned_abs (w.left i) ≢ 0 = λ e. some (abs_zero_z (w.left i) e) in
    omega (arith, most, apart)
size_some w p h (i, inr (inl some)) =
    let most = h.value i in
    let apart : unsigned_abs (w.value i) ≢ 0 = λ e. some (abs_zero_z (w.value i) e) in
    omega (arith, most, apart)
size_some w p h (i, inr (inr some)) =
    let most = h.right i in
    let apart : unsigned_abs (w.right i) ≢ 0 = λ e. some (abs_zero_z (w.right i) e) in
    omega (arith, most, apart)

-- no size is above a bound
reached_low : (w : Limits ℤ) (p q : ℕ) → IsBoundOf w p → IsGreatestOf w q → q ≤ p
reached_low w p q h g = elim g.reached [
  | inl e ↦ let most = h.left g.i in omega (arith, most, e)
  | inr other ↦ elim other [
    | inl e ↦ let most = h.value g.i in omega (arith, most, e)
    | inr e ↦ let most = h.right g.i in omega (arith, most, e)
  ]
]

pub one_size : (w : Limits ℤ) (p q : ℕ) → IsGreatestOf w p → IsGreatestOf w q → p ≡ q
one_size w p q g h =
    let low = reached_low w p q g.bound h in
    let high = reached_low w q p h.bound g in
    omega (arith, low, high)

-- if one size is not too great, no size is
pub not_wide : (f : FunctionData) (m : ℕ) (w : Limits ℤ) (p : ℕ) → IsGreatestOf w p →
    3 * p * (f.scale * m) ≤ 2 ^ 124 → IsWideSplit f m w → ⊥
not_wide f m w p h narrow wide =
    let same = one_size w p wide.size h wide.greatest in
    let above : 2 ^ 124 < 3 * wide.size * (f.scale * m) = wide.above in
    let here : 2 ^ 124 < 3 * p * (f.scale * m) =
    subst (λ n. 2 ^ 124 < 3 * n * (f.scale * m)) (sym same) above in
    omega (arith, here, narrow)

-- the least limit is at most twice the scale
least_small : (f : FunctionData) (m u : ℕ) → IsWithinBounds f → IsMinimal f → 0 < m →
    IsLeastLimit f m u →
    u ≤ 2 * (f.scale * m)
least_small f m u bounds minimal some h = elim h.reached.from [
  | inl (zero_in, here) ↦
      let high = All-contains (λ z. z ≤ℤ pos (2 * f.scale)) slacks (pos u) small here in
      let more : f.scale * 1 ≤ f.scale * m = mul-le-mul_left f.scale some in
      omega (arith, ints, high, more)
  | inr (x, here, e) ↦
      let high = All-contains (λ z. z ≤ℤ pos (2 * f.scale)) slacks (pos x) small here in
      let low : x ≤ 2 * f.scale = omega (arith, ints, high) in
      let more : m * x ≤ m * (2 * f.scale) = mul-le-mul_left m low in
      omega (arith, more, e)
]
  where
    slacks : List ℤ
    slacks = limits_of f h.kind h.a h.b

    small : All (λ z. z ≤ℤ pos (2 * f.scale)) (limits_of f h.kind h.a h.b)
    small = limits_small f bounds minimal h.kind h.a h.b

-- two lists made from functions that agree
map_same : (g h : ℕ → ℤ) (n : ℕ) → ((i : ℕ) → i < n → g i ≡ h i) →
    map g (range_with_len 0 n) ≡ map h (range_with_len 0 n)
map_same g h n e =
    fill_by_all h (map g (range_with_len 0 n)) n (pos 0) (length-map-range_with_len g 0 n)
    (λ i below. get_or-map-range_with_len g 0 n i i (pos 0) below (omega arith) ∙ e i below)

-- ---- the parts

module _ (f : FunctionData) (m size u : ℕ) (s : SideNumbers) (bounds : IsWithinBounds f)
    (minimal : IsMinimal f)
    (can : CanSplitLimits f m s) (greatest : IsGreatestOf (limits_on_sides s) size)
    (narrow : 3 * size * (f.scale * m) ≤ 2 ^ 124) (least : IsLeastLimit f m u) where
  abbrev w : Limits ℤ
  w = limits_on_sides s

  abbrev n : ℕ
  n = f.order * m

  step_small : (step : ℤ) → unsigned_abs step ≡ u → unsigned_abs step ≤ 2 * (f.scale * m)
  step_small step is = let low = least_small f m u bounds minimal can.times_low least in
      omega (arith, low, is)

  small_moves : (xs numbers : List ℤ) (step : ℤ) → ((i : ℕ) → IsUpTo f.scale (at xs i)) →
      length numbers ≡ f.order * m →
      ((i : ℕ) → unsigned_abs (at numbers i) ≤ size) → unsigned_abs step ≡ u →
      AreSmallMoves f xs m (pos (3 * size)) step numbers
  small_moves xs numbers step up_to whole bound is = record {
    whole = whole;
    each = λ i below.
        let entry = refined_small f bounds minimal xs up_to m i can.times_low in
        let number : unsigned_abs (get_or numbers i (pos 0)) ≤ size =
        subst (λ z. unsigned_abs z ≤ size) (at_below numbers i (omega (arith, below, whole)))
        (bound i) in
        let first = product_at_most (3 * size) (f.scale * m) (pos (3 * size)) (refined f xs m i)
        (omega arith) entry in
        let second = product_at_most (2 * (f.scale * m)) size step (get_or numbers i (pos 0))
        (step_small step is) number in
        record { entry = omega (arith, first, narrow); move = omega (arith, second, narrow) };
  }

  pub small_sides : (step : ℤ) → unsigned_abs step ≡ u → AreSmallSides f m (pos (3 * size)) step s
  small_sides step is = record {
    left = small_moves f.left s.left step (left_up_to f bounds minimal) can.within.left_length
        greatest.bound.left is;
    value = small_moves f.value s.value step (value_up_to f bounds minimal) can.within.value_length
        greatest.bound.value is;
    right = small_moves f.right s.right step (right_up_to f bounds minimal) can.within.right_length
        greatest.bound.right is;
  }

  -- ---- the lists that are made

  same_moved : (xs numbers : List ℤ) (step : ℤ) → length numbers ≡ f.order * m →
      map (moved_at f xs m (pos (3 * size)) step numbers) (range_with_len 0 (f.order * m))
      ≡ moved_list f m size step xs (at numbers)
  same_moved xs numbers step whole =
      map_same (moved_at f xs m (pos (3 * size)) step numbers)
      (λ i. pos (3 * size) *ℤ refined f xs m i +ℤ step *ℤ at numbers i) (f.order * m)
      (λ i below. ap (λ z. pos (3 * size) *ℤ refined f xs m i +ℤ step *ℤ z)
      (sym (at_below numbers i (omega (arith, below, whole)))))

  pub sides_same : (step : ℤ) →
      moved_by f m (pos (3 * size)) step s ≡ moved_sides f m size step (limits_on_sides s)
  sides_same step = λ i. record {
    left = same_moved f.left s.left step can.within.left_length i;
    value = same_moved f.value s.value step can.within.value_length i;
    right = same_moved f.right s.right step can.within.right_length i;
  }

  -- the halves that are made
  module _ (h : LimitHalves) (order : h.order ≡ f.order * m)
      (scale : h.scale ≡ pos (3 * size * (f.scale * m)))
      (first : h.first ≡ moved_sides f m size (pos u) (limits_on_sides s))
      (second : h.second ≡ moved_sides f m size (neg_ℤ (pos u)) (limits_on_sides s)) where
    pub are_halves : AreLimitHalvesOf f m (limits_on_sides s) h
    are_halves = record {
      u = u;
      p = size;
      least_limit = least;
      greatest = greatest;
      order = order;
      scale = scale;
      first = first;
      second = second;
    }

    size_positive : 0 < size
    size_positive = size_some (limits_on_sides s) size greatest.bound can.some

    -- ---- the halves as functions

    made_at : (g : ℕ → ℤ) (i : ℕ) → i < f.order * m → at (map g (range_with_len 0 (f.order * m))) i
        ≡ g i
    made_at g i below =
        let len = length-map-range_with_len g 0 (f.order * m) in
        at_below (map g (range_with_len 0 (f.order * m))) i (omega (arith, below, len))
        ∙ get_or-map-range_with_len g 0 (f.order * m) i i (pos 0) below (omega arith)

    moved_function : (step : ℤ) (t : SideNumbers) →
        t ≡ moved_sides f m size step (limits_on_sides s) →
        IsMovedBy f m size step (limits_on_sides s) (half_as_function f m h t)
    moved_function step t is = record {
      order = order;
      place = refl;
      scale = ap unsigned_abs scale;
      left_length = ap (λ (r : SideNumbers). length r.left) is
          ∙ length-map-range_with_len _ 0 (f.order * m) ∙ sym order;
      value_length = ap (λ (r : SideNumbers). length r.value) is
          ∙ length-map-range_with_len _ 0 (f.order * m) ∙ sym order;
      right_length = ap (λ (r : SideNumbers). length r.right) is
          ∙ length-map-range_with_len _ 0 (f.order * m) ∙ sym order;
      left = λ i below. ap (λ (r : SideNumbers). at r.left i) is
          ∙ made_at _ i (omega (arith, below, order));
      value = λ i below. ap (λ (r : SideNumbers). at r.value i) is
          ∙ made_at _ i (omega (arith, below, order));
      right = λ i below. ap (λ (r : SideNumbers). at r.right i) is
          ∙ made_at _ i (omega (arith, below, order));
    }

    pub are_shown : CornersBoundLimits → PerturbationsGiveParts → AreShownHalves f h
    are_shown corners parts = (
      m,
      3 * size,
      scale,
      parts f m u size (limits_on_sides s) (half_as_function f m h h.first)
          (half_as_function f m h h.second) bounds minimal
          can.times_low size_positive can.perturbation
          (corners f m u bounds minimal can.times_low least.reached.some least.least) greatest.bound
          can.some
          (moved_function (pos u) h.first first) (moved_function (neg_ℤ (pos u)) h.second second),
    )

    -- ---- the limits of halves

    list_fits : (xs numbers : List ℤ) (step : ℤ) →
        AreSmallMoves f xs m (pos (3 * size)) step numbers →
        All Fits (map (moved_at f xs m (pos (3 * size)) step numbers)
        (range_with_len 0 (f.order * m)))
    list_fits xs numbers step small =
        All-made Fits (moved_at f xs m (pos (3 * size)) step numbers) 0 (f.order * m) (λ i below.
        let here = small.each i (omega (arith, below)) in
        let entry = here.entry in
        let move = here.move in
        let both = abs_add_z (pos (3 * size) *ℤ refined f xs m i)
        (step *ℤ get_or numbers i (pos 0)) in
        omega (arith, entry, move, both))

    sides_within : (step : ℤ) (t : SideNumbers) → unsigned_abs step ≡ u →
        t ≡ moved_sides f m size step (limits_on_sides s) →
        AreSidesWithin h.order t
    sides_within step t size_is is =
        let small = small_sides step size_is in
        let made = is ∙ sym (sides_same step) in
        subst (AreSidesWithin h.order) (sym made) (record {
          left_length = length-map-range_with_len _ 0 (f.order * m) ∙ sym order;
          value_length = length-map-range_with_len _ 0 (f.order * m) ∙ sym order;
          right_length = length-map-range_with_len _ 0 (f.order * m) ∙ sym order;
          left_fit = list_fits f.left s.left step small.left;
          value_fit = list_fits f.value s.value step small.value;
          right_fit = list_fits f.right s.right step small.right;
        })

    pub within_limits : AreWithinLimits h
    within_limits =
        let order_low : 2 ≤ f.order = bounds.order_low in
        let order_high : f.order ≤ 1000 = bounds.order_high in
        let times_low : 1 ≤ m = can.times_low in
        let times_high : m ≤ 4 = can.times_high in
        let fewest : f.order * 1 ≤ f.order * m = mul-le-mul_left f.order times_low in
        let most : f.order * m ≤ f.order * 4 = mul-le-mul_left f.order times_high in
        let unit : 0 < f.scale * m = mul-pos bounds.scale_low times_low in
        let positive = size_positive in
        let scale_some : 0 < 3 * size * (f.scale * m) = mul-pos (omega (arith, positive)) unit in
        record {
          order_low = omega (arith, order, order_low, fewest);
          order_high = omega (arith, order, order_high, most);
          scale_low = subst (λ z. pos 1 ≤ℤ z) (sym scale) (omega (arith, ints, scale_some));
          scale_high = subst (λ z. z ≤ℤ pos (2 ^ 124)) (sym scale) (omega (arith, ints, narrow));
          first = sides_within (pos u) h.first refl first;
          second = sides_within (neg_ℤ (pos u)) h.second (abs_neg_z (pos u)) second;
        }
