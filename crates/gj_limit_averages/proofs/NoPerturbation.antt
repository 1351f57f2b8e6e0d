-- A function that is no average of two others has no perturbation but 0.
use Rattle.std.proofs.Common.{◌≡◌, ℕ, inl, inr, ⊎_elim, ◌+◌, ◌*◌, ◌<◌, ℤ, pos, neg_ℤ, refl, mul-pos, arith}
use Rattle.std.proofs.lemmas.Int.{ints}
use Rattle.gj_lemmas.proofs.Integers.{same_or_apart_z}
use Rattle.gj_shape.specs.FunctionData.{FunctionData, IsPiecewise}
use Rattle.gj_theory.proofs.SlacksAndSizes.{greatest_size}
use Rattle.gj_jumps.specs.LimitSystem.{Limits}
use Rattle.gj_limit_grids.specs.Grids.{limits_on, IsLimitPerturbation, IsBelowLimits}
use Rattle.gj_limit_averages.specs.Averages.{IsExtremeFunction}
use Rattle.gj_limit_averages.specs.Moved.{IsBoundOf, HasSome, IsMovedBy}
use Rattle.gj_limit_averages.proofs.Corners.{combined}
use Rattle.gj_limit_averages.proofs.MovedFunctions.{parts_of_perturbation}
use Rattle.gj_limit_averages.proofs.RefinedData.{first_length, at_first, data_of}

-- ---- the moved functions

moved_data : (f : FunctionData) (m p : ℕ) (step : ℤ) (w : Limits ℤ) →
    IsMovedBy f m p step w
    (data_of (f.order * m) (f.place * m) (3 * p * (f.scale * m))
    (combined (pos (3 * p)) (limits_on f m) step w))
moved_data f m p step w =
    let n = f.order * m in
    let c = combined (pos (3 * p)) (limits_on f m) step w in
    record {
      order = refl;
      place = refl;
      scale = refl;
      left_length = first_length n c.left;
      value_length = first_length n c.value;
      right_length = first_length n c.right;
      left = at_first n c.left;
      value = at_first n c.value;
      right = at_first n c.right;
    }

-- limits are whole numbers
one_below : (f : FunctionData) (m : ℕ) → IsBelowLimits f m 1
one_below f m = record { some = omega arith; below = λ kind a b c h. omega (arith, ints) }

bound_of : (f : FunctionData) (m : ℕ) (w : Limits ℤ) → 0 < f.order * m → IsLimitPerturbation f m w →
    (p : ℕ) × (0 < p) × IsBoundOf w p
bound_of f m w some d =
    let (l, left) = greatest_size w.left (f.order * m) some d.left_period in
    let (v, value) = greatest_size w.value (f.order * m) some d.value_period in
    let (r, right) = greatest_size w.right (f.order * m) some d.right_period in (
      l + v + r + 1,
      omega arith,
      record {
        left = λ i. let h = left.greatest i in omega arith;
        value = λ i. let h = value.greatest i in omega arith;
        right = λ i. let h = right.greatest i in omega arith;
      },
    )

pub no_perturbation : (f : FunctionData) (m : ℕ) (w : Limits ℤ) → IsPiecewise f →
    IsExtremeFunction f → 0 < m → IsLimitPerturbation f m w → HasSome w → ⊥
no_perturbation f m w l h some d differ =
    let low = l.order_low in
    let q_some : 0 < f.order = omega arith in
    let bound = bound_of f m w (mul-pos q_some some) d in
    let p = bound.0 in
    let n = f.order * m in
    let s = 3 * p * (f.scale * m) in
    let v = limits_on f m in
    h.no_average m (3 * p) (data_of n (f.place * m) s (combined (pos (3 * p)) v (pos 1) w))
    (data_of n (f.place * m) s (combined (pos (3 * p)) v (neg_ℤ (pos 1)) w))
    (parts_of_perturbation f m w l h.minimal some d 1 p bound.1 (one_below f m) bound.2 _ _
    (moved_data f m p (pos 1) w) (moved_data f m p (neg_ℤ (pos 1)) w) differ)

-- each of its numbers is 0
pub only_zero_perturbation : (f : FunctionData) (m : ℕ) (w : Limits ℤ) → IsPiecewise f →
    IsExtremeFunction f → 0 < m → IsLimitPerturbation f m w → (i : ℕ) →
    (w.left i ≡ pos 0) × (w.value i ≡ pos 0) × (w.right i ≡ pos 0)
only_zero_perturbation f m w l h some d i =
    let none = no_perturbation f m w l h some d in (
      ⊎_elim (λ e. e) (λ apart. absurd (none (i, inl apart))) (same_or_apart_z (w.left i) (pos 0)),
      ⊎_elim (λ e. e) (λ apart. absurd (none (i, inr (inl apart))))
          (same_or_apart_z (w.value i) (pos 0)),
      ⊎_elim (λ e. e) (λ apart. absurd (none (i, inr (inr apart))))
          (same_or_apart_z (w.right i) (pos 0)),
    )
