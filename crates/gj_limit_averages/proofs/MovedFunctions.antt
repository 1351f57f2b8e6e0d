-- A minimal function moved both ways along a perturbation is two minimal functions.
use Rattle.std.proofs.Common.{◌≡◌, ◌≢◌, ℕ, inl, inr, ◌+◌, ◌-◌, ◌*◌, ◌<◌, ◌≤◌, ℤ, pos, ◌+ℤ◌, ◌*ℤ◌, neg_ℤ, ◌<ℤ◌, ◌≤ℤ◌, [], ◌∷◌, unsigned_abs, refl, sym, ap, ap₂, subst, ◌∙◌, mul-pos, arith}
use Rattle.std.proofs.Math.Nat.{mul-le-mul}
use Rattle.std.proofs.lemmas.Int.{ints, by_lt_z, unsigned_abs-mul}
use Rattle.gj_lemmas.proofs.Integers.{mul_le_mul_left_z, mul_cancel_left_z}
use Rattle.gj_lemmas.proofs.Ring.{by_ring, ring}
use Rattle.gj_shape.specs.FunctionData.{FunctionData, IsPiecewise}
use Rattle.gj_shape.specs.Faces.{slack_from}
use Rattle.gj_shape.specs.Table.{IsMinimal}
use Rattle.gj_shape.specs.declared.faces.FaceKind.TheVariants.{Vertex, Diagonal}
use Rattle.gj_jumps.specs.LimitSystem.{Limits}
use Rattle.gj_limit_grids.specs.Grids.{limits_on, slack_at_corner, IsLimitPerturbation, IsBelowLimits}
use Rattle.gj_limit_averages.specs.Averages.{IsMinimalOver, AverageToFunction, Differ, AreDifferentParts}
use Rattle.gj_limit_averages.specs.Moved.{IsBoundOf, HasSome, IsMovedBy}
use Rattle.gj_limit_averages.proofs.Corners.{own_limits, same_limits, combined, combined_slack, slack_size}
use Rattle.gj_limit_averages.proofs.MinimalFromLimits.{AreMinimalLimits, limits_of_minimal, minimal_from_limits}
use Rattle.gj_limit_averages.proofs.RefinedData.{pieces_on_grid, at_everywhere, period_on, data_on, data_on_limits, data_on_minimal}

-- ---- over plain numbers

-- two numbers add up to 0 if their slack is 0 where two others add up to s
opposite_z : (x y z s p q r : ℤ) → (slack_from x y z ≡ pos 0 → slack_from p q r ≡ pos 0) →
    x +ℤ y ≡ s → z ≡ s → r ≡ pos 0 → p +ℤ q ≡ pos 0
opposite_z x y z s p q r tight sum there none =
    let nothing = tight (omega (arith, ints)) in omega (arith, ints)

-- P times what is at least u, and at most u times what is at most P
loose_z : (P u : ℕ) (z x d : ℤ) → pos u ≤ℤ x → unsigned_abs z ≤ u → unsigned_abs d ≤ P →
    pos 0 ≤ℤ (pos P *ℤ x +ℤ z *ℤ d)
loose_z P u z x d above step size =
    let first = mul_le_mul_left_z (pos u) x (pos P) (omega (arith, ints)) above in
    let second : unsigned_abs (z *ℤ d) ≤ u * P =
    subst (λ n. n ≤ u * P) (sym (unsigned_abs-mul z d)) (mul-le-mul step size) in
    let turned : pos P *ℤ pos u ≡ pos (u * P) =
    by_ring (pos P ∷ pos u ∷ []) (search ring depth 20) refl in
    omega (arith, ints)

zero_z : (m z x d : ℤ) → x ≡ pos 0 → d ≡ pos 0 → m *ℤ x +ℤ z *ℤ d ≡ pos 0
zero_z m z x d e g = ap₂ (λ a b. m *ℤ a +ℤ z *ℤ b) e g ∙ omega (arith, ints)

-- the same, or 0 with d
moved_z : (P u : ℕ) (z x d : ℤ) → pos 0 ≤ℤ x → (x ≡ pos 0 → d ≡ pos 0) → (pos 0 <ℤ x → pos u ≤ℤ x) →
    unsigned_abs z ≤ u → unsigned_abs d ≤ P → pos 0 ≤ℤ (pos P *ℤ x +ℤ z *ℤ d)
moved_z P u z x d sign tight above step size =
    by_lt_z (pos 0) x (λ loose. loose_z P u z x d (above loose) step size)
    (λ low.
    let none : x ≡ pos 0 = omega (arith, ints) in
    let nothing = zero_z (pos P) z x d none (tight none) in
    omega (arith, ints))

moved_sum_z : (P s : ℕ) (z x y p q : ℤ) → x +ℤ y ≡ pos s → p +ℤ q ≡ pos 0 →
    (pos P *ℤ x +ℤ z *ℤ p) +ℤ (pos P *ℤ y +ℤ z *ℤ q) ≡ pos (P * s)
moved_sum_z P s z x y p q e g =
    by_ring (pos P ∷ z ∷ x ∷ y ∷ p ∷ q ∷ []) (search ring depth 20) refl
    ∙ ap₂ (λ a b. pos P *ℤ a +ℤ z *ℤ b) e g
    ∙ by_ring (pos P ∷ pos s ∷ z ∷ []) (search ring depth 20) refl

average_z : (P : ℕ) (u x p : ℤ) →
    (pos P *ℤ x +ℤ u *ℤ p) +ℤ (pos P *ℤ x +ℤ neg_ℤ u *ℤ p) ≡ pos (2 * P) *ℤ x
average_z P u x p = by_ring (pos P ∷ u ∷ x ∷ p ∷ []) (search ring depth 30) refl

apart_z : (P u : ℕ) (x p : ℤ) → 0 < u → p ≢ pos 0 →
    pos P *ℤ x +ℤ pos u *ℤ p ≢ pos P *ℤ x +ℤ neg_ℤ (pos u) *ℤ p
apart_z P u x p some differ e =
    let U = pos 2 *ℤ pos u in
    let difference :
    U *ℤ p ≡ (pos P *ℤ x +ℤ pos u *ℤ p) +ℤ neg_ℤ (pos P *ℤ x +ℤ neg_ℤ (pos u) *ℤ p) =
    by_ring (pos P ∷ pos u ∷ x ∷ p ∷ []) (search ring depth 30) refl in
    differ (mul_cancel_left_z p (pos 0) U (omega (arith, ints)) (omega (arith, ints)))

-- ---- the limits of the function and of the perturbation

by_sizes : {v : Limits ℤ} {n n' k k' s s' : ℕ} → n ≡ n' → k ≡ k' → s ≡ s' →
    AreMinimalLimits v n' k' s' → AreMinimalLimits v n k s
by_sizes e g d h = rw (e, g, d) h

module _ (f : FunctionData) (m : ℕ) (w : Limits ℤ) (l : IsPiecewise f) (minimal : IsMinimal f)
    (some : 0 < m)
    (d : IsLimitPerturbation f m w) where
  abbrev v : Limits ℤ
  v = limits_on f m

  abbrev n : ℕ
  n = f.order * m

  abbrev k : ℕ
  k = f.place * m

  abbrev s : ℕ
  s = f.scale * m

  n_some : 0 < n
  n_some = let low = l.order_low in let any : 0 < f.order = omega arith in mul-pos any some

  low : AreMinimalLimits v n k s
  low =
      subst (λ x. AreMinimalLimits x n k s) (data_on_limits f m some l)
      (limits_of_minimal (data_on f m) (data_on_minimal f m some l minimal))

  -- the values at f, one turn on
  at_place : (i : ℕ) → i ≡ k + n → v.value i ≡ pos s
  at_place i e =
      let sum = low.values 0 n_some in
      let there : v.value (k + (n - 0)) ≡ v.value i = ap v.value (omega arith) in
      let start = low.zero in
      omega (arith, ints)

  zero_at_place : (i : ℕ) → i ≡ k + n → w.value i ≡ pos 0
  zero_at_place i e = ap w.value e ∙ d.value_period k ∙ d.zero_at_place

  zero_at_zero : w.value 0 ≡ pos 0
  zero_at_zero =
      let start = low.zero in
      let tight : slack_from (v.value 0) (v.value 0) (v.value 0) ≡ pos 0 = omega (arith, ints) in
      let both : slack_from (w.value 0) (w.value 0) (w.value 0) ≡ pos 0 =
      d.at_tight Vertex 0 0 0 tight in
      omega (arith, ints)

  -- at places that add up to f the numbers add up to 0
  values : (i : ℕ) → i < n → w.value i +ℤ w.value (k + (n - i)) ≡ pos 0
  values i below =
      let j = k + (n - i) in
      let e : i + j ≡ k + n = omega arith in
      opposite_z (v.value i) (v.value j) (v.value (i + j)) (pos s) (w.value i) (w.value j)
      (w.value (i + j)) (d.at_tight Vertex i j 0) (low.values i below) (at_place (i + j) e)
      (zero_at_place (i + j) e)

  after_and_before : (i : ℕ) → i < n → w.right i +ℤ w.left (k + (n - i)) ≡ pos 0
  after_and_before i below =
      let j = k + (n - (i + 1)) in
      let next : k + (n - i) ≡ j + 1 = omega arith in
      let e : i + j + 1 ≡ k + n = omega arith in
      ap (λ a. w.right i +ℤ w.left a) next
      ∙ opposite_z (v.right i) (v.left (j + 1)) (v.value (i + j + 1)) (pos s) (w.right i)
      (w.left (j + 1)) (w.value (i + j + 1)) (d.at_tight Diagonal i j 1)
      (ap (λ a. v.right i +ℤ v.left a) (sym next) ∙ low.after_and_before i below)
      (at_place (i + j + 1) e) (zero_at_place (i + j + 1) e)

  before_and_after : (i : ℕ) → i < n → w.left (i + 1) +ℤ w.right (k + (n - (i + 1))) ≡ pos 0
  before_and_after i below =
      let j = k + (n - (i + 1)) in
      let e : i + j + 1 ≡ k + n = omega arith in
      opposite_z (v.left (i + 1)) (v.right j) (v.value (i + j + 1)) (pos s) (w.left (i + 1))
      (w.right j) (w.value (i + j + 1)) (d.at_tight Diagonal i j 0) (low.before_and_after i below)
      (at_place (i + j + 1) e) (zero_at_place (i + j + 1) e)

  -- ---- the moved function

  module _ (u p : ℕ) (p_some : 0 < p) (below : IsBelowLimits f m u) (bound : IsBoundOf w p) where
    -- the limits, moved, are those of a minimal function
    moved_limits_minimal : (z : ℤ) → unsigned_abs z ≤ u →
        AreMinimalLimits (combined (pos (3 * p)) v z w) n k (3 * p * s)
    moved_limits_minimal z small =
        let P = 3 * p in
        record {
          zero = zero_z (pos P) z (v.value 0) (w.value 0) low.zero zero_at_zero;
          slack = λ kind a b c.
              subst (λ y. pos 0 ≤ℤ y) (sym (combined_slack (pos P) z v w kind a b c))
              (moved_z P u z (slack_at_corner v kind a b c) (slack_at_corner w kind a b c)
              (low.slack kind a b c) (d.at_tight kind a b c) (below.below kind a b c) small
              (slack_size w p bound kind a b c));
          values = λ i i_below.
              moved_sum_z P s z (v.value i) (v.value (k + (n - i))) (w.value i)
              (w.value (k + (n - i))) (low.values i i_below) (values i i_below);
          after_and_before = λ i i_below.
              moved_sum_z P s z (v.right i) (v.left (k + (n - i))) (w.right i)
              (w.left (k + (n - i))) (low.after_and_before i i_below) (after_and_before i i_below);
          before_and_after = λ i i_below.
              let j = k + (n - (i + 1)) in
              moved_sum_z P s z (v.left (i + 1)) (v.right j) (w.left (i + 1)) (w.right j)
              (low.before_and_after i i_below) (before_and_after i i_below);
        }

    -- they are the limits of the moved function
    moved_limits : (z : ℤ) (g : FunctionData) → IsMovedBy f m p z w g →
        own_limits g ≡ combined (pos (3 * p)) v z w
    moved_limits z g h =
        let period = period_on f m some l in
        let order = h.order in
        let sum = λ (x y : ℤ). pos (3 * p) *ℤ x +ℤ z *ℤ y in
        same_limits (own_limits g) (combined (pos (3 * p)) v z w)
        (at_everywhere g.left n (λ i. sum (v.left i) (w.left i)) (h.left_length ∙ order) n_some
        (λ i. ap₂ sum (period.left i) (d.left_period i)) (λ i low. h.left i (omega arith)))
        (at_everywhere g.value n (λ i. sum (v.value i) (w.value i)) (h.value_length ∙ order) n_some
        (λ i. ap₂ sum (period.value i) (d.value_period i)) (λ i low. h.value i (omega arith)))
        (at_everywhere g.right n (λ i. sum (v.right i) (w.right i)) (h.right_length ∙ order) n_some
        (λ i. ap₂ sum (period.right i) (d.right_period i)) (λ i low. h.right i (omega arith)))

    moved_minimal : (z : ℤ) (g : FunctionData) → unsigned_abs z ≤ u → IsMovedBy f m p z w g →
        IsMinimal g
    moved_minimal z g small h =
        minimal_from_limits g
        (pieces_on_grid f m (3 * p) g l some (omega arith) h.order h.place h.scale h.left_length
        h.value_length h.right_length)
        (by_sizes h.order h.place h.scale
        (subst (λ x. AreMinimalLimits x n k (3 * p * s)) (sym (moved_limits z g h))
        (moved_limits_minimal z small)))

    moved_over : (z : ℤ) (g : FunctionData) → unsigned_abs z ≤ u → IsMovedBy f m p z w g →
        IsMinimalOver f m (3 * p) g
    moved_over z g small h = record {
      order = h.order;
      place = h.place;
      scale = h.scale;
      left_length = h.left_length;
      value_length = h.value_length;
      right_length = h.right_length;
      minimal = moved_minimal z g small h;
    }

    -- ---- both ways

    module _ (g h : FunctionData) (up : IsMovedBy f m p (pos u) w g)
        (down : IsMovedBy f m p (neg_ℤ (pos u)) w h) where
      -- what the two are at one place
      both : {A : Type 0} (part : Limits ℤ → ℤ) (P : ℤ → ℤ → A) →
          P (part (own_limits g)) (part (own_limits h))
          ≡ P (part (combined (pos (3 * p)) v (pos u) w))
          (part (combined (pos (3 * p)) v (neg_ℤ (pos u)) w))
      both part P =
          ap₂ (λ x y. P (part x) (part y)) (moved_limits (pos u) g up)
          (moved_limits (neg_ℤ (pos u)) h down)

      average : AverageToFunction f m (3 * p) g h
      average = record {
        left = λ i. both (λ x. x.left i) (λ x y. x +ℤ y)
            ∙ average_z (3 * p) (pos u) (v.left i) (w.left i);
        value = λ i. both (λ x. x.value i) (λ x y. x +ℤ y)
            ∙ average_z (3 * p) (pos u) (v.value i) (w.value i);
        right = λ i. both (λ x. x.right i) (λ x y. x +ℤ y)
            ∙ average_z (3 * p) (pos u) (v.right i) (w.right i);
      }

      apart : (part : Limits ℤ → ℤ) (x y : ℤ) →
          part (combined (pos (3 * p)) v (pos u) w) ≡ pos (3 * p) *ℤ x +ℤ pos u *ℤ y →
          part (combined (pos (3 * p)) v (neg_ℤ (pos u)) w)
          ≡ pos (3 * p) *ℤ x +ℤ neg_ℤ (pos u) *ℤ y →
          y ≢ pos 0 → part (own_limits g) ≢ part (own_limits h)
      apart part x y first second differ same =
          apart_z (3 * p) u x y below.some differ
          (sym first ∙ sym (ap part (moved_limits (pos u) g up)) ∙ same
          ∙ ap part (moved_limits (neg_ℤ (pos u)) h down) ∙ second)

      differ : HasSome w → Differ g h
      differ (i, inl left) = (i, inl (apart (λ x. x.left i) (v.left i) (w.left i) refl refl left))
      differ (i, inr (inl value)) =
          (i, inr (inl (apart (λ x. x.value i) (v.value i) (w.value i) refl refl value)))
      differ (i, inr (inr right)) =
          (i, inr (inr (apart (λ x. x.right i) (v.right i) (w.right i) refl refl right)))

      -- two different minimal functions that average to the function
      pub parts_of_perturbation : HasSome w → AreDifferentParts f m (3 * p) g h
      parts_of_perturbation nonzero = record {
        finer = some;
        factor = omega arith;
        first = moved_over (pos u) g (omega (arith, ints)) up;
        second = moved_over (neg_ℤ (pos u)) h (omega (arith, ints)) down;
        average = average;
        different = differ nonzero;
      }
