-- A minimal continuous function with two slopes is extreme: no perturbation but 0 has one step a
-- slope.
use Rattle.std.proofs.Common.{◌≡◌, ℕ, zero, suc, ◌⊎◌, inl, inr, ◌+◌, ◌-◌, ◌*◌, ◌<◌, ◌≤◌, ℤ, pos, ◌+ℤ◌, ◌-ℤ◌, ◌*ℤ◌, ◌≤ℤ◌, ◌<ℤ◌, unsigned_abs, [], ◌∷◌, refl, ap, sym, subst, ◌∙◌, arith}
use Rattle.std.proofs.lemmas.Int.{ints}
use Rattle.gj_lemmas.proofs.Integers.{mul_comm_z, zero_factor_z, abs_positive_z, pos_abs_z}
use Rattle.gj_lemmas.proofs.Ring.{by_ring, ring}
use Rattle.gj_shape.specs.Extreme.{IsExtreme}
use Rattle.gj_shape.specs.FunctionData.{FunctionData, IsWithinBounds, IsContinuous, at}
use Rattle.gj_shape.specs.Table.{table, IsMinimal}
use Rattle.gj_shape.specs.TwoSlopes.{rise, HasTwoSlopes}
use Rattle.gj_shape.specs.declared.faces.FaceKind.TheVariants.{Lower, Upper}
use Rattle.gj_theory.specs.RisesAndFalls.{RisesOrFalls}
use Rattle.gj_theory.specs.Steps.{HasStepOn, IsAdditiveOnGrid}
use Rattle.gj_theory.proofs.AverageDifference.{difference_additive, difference_zero}
use Rattle.gj_theory.proofs.CarriedSteps.{given_by_triangle}
use Rattle.gj_theory.proofs.CoverSteps.{step_is_first}
use Rattle.gj_theory.proofs.Continuous.{HasMinimalValues}
use Rattle.gj_theory.proofs.ExtremeByCover.{value_from_slopes, zero_everywhere}
use Rattle.gj_theory.proofs.SlopeSums.{sum_before}
use Rattle.gj_theory.proofs.TwoSlopes.{minimal_values, value_at_place, value_at_order, rises_and_falls}
use Rattle.gj_theory.proofs.TwoSlopeCovers.{rising_lower, falling_upper, first_of_three, second_of_three}

-- ---- slopes along a table with two slopes

-- before i the table goes by x where the slope is u, and else by y where the slope is w
abbrev pub GoAlong : (ℕ → ℤ) → (ℕ → ℤ) → ℤ → ℤ → ℤ → ℤ → ℕ → Type 0
GoAlong v slope x y u w n =
    (a : ℕ) → a < n → ((v (a + 1) -ℤ v a ≡ x) × (slope a ≡ u))
    ⊎ ((v (a + 1) -ℤ v a ≡ y) × (slope a ≡ w))

step_up : (x y u w s t d i : ℤ) → (x -ℤ y) *ℤ s ≡ (u -ℤ w) *ℤ d +ℤ i *ℤ t → t ≡ x *ℤ w -ℤ y *ℤ u →
    (x -ℤ y) *ℤ (s +ℤ u) ≡ (u -ℤ w) *ℤ (d +ℤ x) +ℤ (i +ℤ pos 1) *ℤ t
step_up x y u w s t d i e is =
    let left : (x -ℤ y) *ℤ (s +ℤ u) ≡ (x -ℤ y) *ℤ s +ℤ (u *ℤ x -ℤ y *ℤ u) =
    by_ring (x ∷ y ∷ u ∷ s ∷ []) (search ring depth 40) refl in
    let right : (u -ℤ w) *ℤ (d +ℤ x) +ℤ (i +ℤ pos 1) *ℤ t ≡ ((u -ℤ w) *ℤ d +ℤ i *ℤ t)
    +ℤ (u *ℤ x -ℤ x *ℤ w) +ℤ t =
    by_ring (x ∷ u ∷ w ∷ d ∷ i ∷ t ∷ []) (search ring depth 40) refl in
    omega (arith, ints)

step_down : (x y u w s t d i : ℤ) → (x -ℤ y) *ℤ s ≡ (u -ℤ w) *ℤ d +ℤ i *ℤ t → t ≡ x *ℤ w -ℤ y *ℤ u →
    (x -ℤ y) *ℤ (s +ℤ w) ≡ (u -ℤ w) *ℤ (d +ℤ y) +ℤ (i +ℤ pos 1) *ℤ t
step_down x y u w s t d i e is =
    let left : (x -ℤ y) *ℤ (s +ℤ w) ≡ (x -ℤ y) *ℤ s +ℤ (x *ℤ w -ℤ y *ℤ w) =
    by_ring (x ∷ y ∷ w ∷ s ∷ []) (search ring depth 40) refl in
    let right : (u -ℤ w) *ℤ (d +ℤ y) +ℤ (i +ℤ pos 1) *ℤ t ≡ ((u -ℤ w) *ℤ d +ℤ i *ℤ t)
    +ℤ (y *ℤ u -ℤ y *ℤ w) +ℤ t =
    by_ring (y ∷ u ∷ w ∷ d ∷ i ∷ t ∷ []) (search ring depth 40) refl in
    omega (arith, ints)

-- the sum of the slopes before i, by the table
slopes_along : (v slope : ℕ → ℤ) (x y u w : ℤ) (n : ℕ) → GoAlong v slope x y u w n → (i : ℕ) →
    i ≤ n →
    (x -ℤ y) *ℤ sum_before slope i ≡ (u -ℤ w) *ℤ (v i -ℤ v 0) +ℤ pos i *ℤ (x *ℤ w -ℤ y *ℤ u)
unfolding sum_before
slopes_along v slope x y u w n along zero low =
    let none : v 0 -ℤ v 0 ≡ pos 0 = omega (arith, ints) in
    by_ring (x ∷ y ∷ u ∷ w ∷ v 0 ∷ []) (search ring depth 40) refl
slopes_along v slope x y u w n along (suc i) low =
    let before = slopes_along v slope x y u w n along i (omega arith) in
    let t = x *ℤ w -ℤ y *ℤ u in
    let next : v (suc i) ≡ v (i + 1) = ap v (omega arith) in
    let one : pos (suc i) ≡ pos i +ℤ pos 1 = omega (arith, ints) in
    let join = λ (s d : ℤ) (e : slope i ≡ s) (g : v (suc i) -ℤ v 0 ≡ v i -ℤ v 0 +ℤ d)
    (h : (x -ℤ y) *ℤ (sum_before slope i +ℤ s) ≡ (u -ℤ w) *ℤ (v i -ℤ v 0 +ℤ d) +ℤ (pos i +ℤ pos 1)
    *ℤ t).
    ap (λ z. (x -ℤ y) *ℤ (sum_before slope i +ℤ z)) e ∙ h
    ∙ ap (λ z. (u -ℤ w) *ℤ z +ℤ (pos i +ℤ pos 1) *ℤ t) (sym g)
    ∙ ap (λ z. (u -ℤ w) *ℤ (v (suc i) -ℤ v 0) +ℤ z *ℤ t) (sym one) in
    elim (along i (omega arith)) [
      | inl (rises, is) ↦
          join u x is (omega (arith, ints))
          (step_up x y u w (sum_before slope i) t (v i -ℤ v 0) (pos i) before refl)
      | inr (falls, is) ↦
          join w y is (omega (arith, ints))
          (step_down x y u w (sum_before slope i) t (v i -ℤ v 0) (pos i) before refl)
    ]

-- both are 0 if the slopes add up to 0 at the period and at a place k at which the table is not as
-- at 0
pub both_zero : (v slope : ℕ → ℤ) (x y u w : ℤ) (n k : ℕ) → GoAlong v slope x y u w n → 0 < n →
    k ≤ n → y <ℤ x →
    v n ≡ v 0 → v 0 <ℤ v k → sum_before slope n ≡ pos 0 → sum_before slope k ≡ pos 0 →
    (u ≡ pos 0) × (w ≡ pos 0)
both_zero v slope x y u w n k along some k_low apart period higher whole place =
    let t = x *ℤ w -ℤ y *ℤ u in
    let zeros = λ (i : ℕ) (e : sum_before slope i ≡ pos 0).
    let times : (x -ℤ y) *ℤ pos 0 ≡ pos 0 = omega (arith, ints) in
    sym (ap (λ z. (x -ℤ y) *ℤ z) e ∙ times) in
    let at_period : pos 0 ≡ (u -ℤ w) *ℤ (v n -ℤ v 0) +ℤ pos n *ℤ t =
    zeros n whole ∙ slopes_along v slope x y u w n along n (omega arith) in
    let no_rise : (u -ℤ w) *ℤ (v n -ℤ v 0) ≡ pos 0 =
    ap (λ z. (u -ℤ w) *ℤ z) (let e : v n -ℤ v 0 ≡ pos 0 = omega (arith, ints) in e)
    ∙ omega (arith, ints) in
    let t_zero : t ≡ pos 0 = zero_factor_z n t some (omega (arith, ints)) in
    let at_place : pos 0 ≡ (u -ℤ w) *ℤ (v k -ℤ v 0) +ℤ pos k *ℤ t =
    zeros k place ∙ slopes_along v slope x y u w n along k k_low in
    let no_more : pos k *ℤ t ≡ pos 0 = ap (λ z. pos k *ℤ z) t_zero ∙ omega (arith, ints) in
    let product : (u -ℤ w) *ℤ (v k -ℤ v 0) ≡ pos 0 = omega (arith, ints) in
    let same : u -ℤ w ≡ pos 0 = factor_zero (u -ℤ w) (v k -ℤ v 0) product (omega (arith, ints)) in
    let one : u ≡ w = omega (arith, ints) in
    let product_two : w *ℤ (x -ℤ y) ≡ pos 0 =
    (let e : w *ℤ (x -ℤ y) ≡ x *ℤ w -ℤ y *ℤ w =
    by_ring (x ∷ y ∷ w ∷ []) (search ring depth 40) refl in e)
    ∙ ap (λ z. x *ℤ w -ℤ y *ℤ z) (sym one) ∙ t_zero in
    let w_zero : w ≡ pos 0 = factor_zero w (x -ℤ y) product_two (omega (arith, ints)) in
    (one ∙ w_zero, w_zero)
  where
    factor_zero : (a b : ℤ) → a *ℤ b ≡ pos 0 → pos 0 <ℤ b → a ≡ pos 0
    factor_zero a b e some = zero_factor_z (unsigned_abs b) a (abs_positive_z b some)
        (ap (λ z. z *ℤ a) (pos_abs_z b (let h : pos 0 ≤ℤ b = omega (arith, ints) in h))
        ∙ mul_comm_z b a ∙ e)

-- ---- steps of a perturbation

-- a table that is additive where the function's is has the first interval's step where it rises,
-- and the last's where it falls
pub record StepsBySlope (f : FunctionData) (m : ℕ) (p : ℕ → ℤ) (u w : ℤ) : Type 0 where
  pub rising : (a : ℕ) → rise f a ≡ rise f 0 → HasStepOn p m a u
  pub falling : (a : ℕ) → rise f a ≡ rise f (f.order - 1) → HasStepOn p m a w

steps_by_slope : (f : FunctionData) (m : ℕ) (p : ℕ → ℤ) → IsContinuous f → 0 < f.order → 0 < m →
    HasMinimalValues f →
    IsAdditiveOnGrid f m p → (u : ℤ) × (w : ℤ) × StepsBySlope f m p u w
steps_by_slope f m p continuous q_some some h additive =
    let last = f.order - 1 in
    let first_step = given_by_triangle f m p Lower 0 0 continuous some additive
    (rising_lower f 0 h refl) in
    let last_step = given_by_triangle f m p Upper last last continuous some additive
    (falling_upper f last q_some h refl) in (
      first_step.0,
      last_step.0,
      record {
        rising = λ a same.
            let own = given_by_triangle f m p Lower 0 a continuous some additive
            (rising_lower f a h same) in
            let here = step_is_first p m 0 first_step.0 some
            (first_step.1 0 (first_of_three f.order 0 0 (0 + 0) 0 refl)) in
            let there = step_is_first p m 0 own.0 some
            (own.1 0 (first_of_three f.order 0 a (0 + a) 0 refl)) in
            subst (λ (t : ℤ). HasStepOn p m a t) (there ∙ sym here)
            (own.1 a (second_of_three f.order 0 a (0 + a) a refl));
        falling = λ a same.
            let own = given_by_triangle f m p Upper last a continuous some additive
            (falling_upper f a q_some h same) in
            let here = step_is_first p m last last_step.0 some
            (last_step.1 last (first_of_three f.order last last (last + last + 1) last refl)) in
            let there = step_is_first p m last own.0 some
            (own.1 last (first_of_three f.order last a (last + a + 1) last refl)) in
            subst (λ (t : ℤ). HasStepOn p m a t) (there ∙ sym here)
            (own.1 a (second_of_three f.order last a (last + a + 1) a refl));
      },
    )

-- one of two numbers, by the case
chosen : {A B : Type 0} → A ⊎ B → ℤ → ℤ → ℤ
chosen (inl a) u w = u
chosen (inr b) u w = w

chosen_holds : {A B : Type 0} (P : ℤ → Type 0) (s : A ⊎ B) (u w : ℤ) → (A → P u) → (B → P w) →
    P (chosen s u w)
unfolding chosen
chosen_holds P (inl a) u w first second = first a
chosen_holds P (inr b) u w first second = second b

chosen_along : {A B : Type 0} (s : A ⊎ B) (u w : ℤ) →
    (A × (chosen s u w ≡ u)) ⊎ (B × (chosen s u w ≡ w))
unfolding chosen
chosen_along (inl a) u w = inl (a, refl)
chosen_along (inr b) u w = inr (b, refl)

no_perturbation : (f : FunctionData) (m : ℕ) (p : ℕ → ℤ) → IsWithinBounds f → IsContinuous f →
    HasMinimalValues f → RisesOrFalls f →
    0 < m → IsAdditiveOnGrid f m p → p 0 ≡ pos 0 → p (f.place * m) ≡ pos 0 → (x : ℕ) → p x ≡ pos 0
no_perturbation f m p l continuous h goes some additive start place =
    let q_some : 0 < f.order = omega (arith, l.order_low) in
    let steps = steps_by_slope f m p continuous q_some some h additive in
    let slope = λ (a : ℕ). chosen (goes.each a) steps.0 steps.1 in
    let own = λ (a : ℕ) (low : a < f.order).
    chosen_holds (λ t. HasStepOn p m a t) (goes.each a) steps.0 steps.1 (steps.2.rising a)
    (steps.2.falling a) in
    let value = value_from_slopes p f.order m slope start own in
    let k_low : f.place ≤ f.order = omega (arith, l.place_high) in
    let whole : sum_before slope f.order ≡ pos 0 =
    zero_factor_z m (sum_before slope f.order) some
    (sym (value f.order (omega arith))
    ∙ ap p (let e : f.order * m ≡ 0 + f.order * m = omega arith in e)
    ∙ additive.has_period 0 ∙ start) in
    let at_place : sum_before slope f.place ≡ pos 0 =
    zero_factor_z m (sum_before slope f.place) some (sym (value f.place k_low) ∙ place) in
    let zero_value = h.zero_at_zero in
    let one_value = value_at_place f h in
    let first_rises = goes.first_rises in
    let last_falls = goes.last_falls in
    let zeros = both_zero (at f.value) slope (rise f 0)
    (rise f (f.order - 1)) steps.0 steps.1 f.order f.place
    (λ a low. chosen_along (goes.each a) steps.0 steps.1) q_some k_low (omega (arith, ints))
    (value_at_order f h ∙ sym h.zero_at_zero) (omega (arith, ints, l.scale_low)) whole at_place in
    let none = λ (a : ℕ) (low : a < f.order).
    subst (λ (t : ℤ). HasStepOn p m a t)
    (chosen_holds (λ t. t ≡ pos 0) (goes.each a) steps.0 steps.1 (λ e. zeros.0) (λ e. zeros.1))
    (own a low) in
    zero_everywhere p f.order m q_some some additive.has_period start none

pub two_slopes_extreme : (f : FunctionData) → IsWithinBounds f → IsMinimal f → HasTwoSlopes f →
    IsExtreme f
two_slopes_extreme f l minimal two m some = record {
  minimal = minimal m some;
  no_average = λ c a b c_some first second average i.
      let t = table f m in
      let starts = difference_zero t a (f.order * m) (f.place * m) (f.scale * m) c
      (minimal m some) first in
      let additive = difference_additive t a b (f.order * m) (f.place * m) (f.scale * m) c
      (minimal m some) first second average in
      let none = no_perturbation f m (λ x. a x -ℤ pos c *ℤ t x) l two.continuous
      (minimal_values f minimal)
      (rises_and_falls f l minimal two) some additive starts.0 starts.1 i in
      let twice : pos (2 * c) *ℤ t i ≡ pos c *ℤ t i +ℤ pos c *ℤ t i =
      by_ring (pos c ∷ t i ∷ []) (search ring depth 20) refl in
      omega (arith, ints, average i);
}
