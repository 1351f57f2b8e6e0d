-- Numbers on a grid.
use Rattle.std.proofs.Common.{◌≡◌, ◌<◌, ℕ, ℤ, pos, sym, ap, subst, subst₂, ◌∙◌, arith, ap₂, refl, [], ◌∷◌, ◌+ℤ◌, ◌-ℤ◌, ◌≤ℤ◌}
use Rattle.std.proofs.lemmas.Int.{ints}
use Rattle.gj_frac.specs.declared.Frac.{Frac}
use Rattle.gj_frac.specs.Floor.{IsFloor}
use Rattle.gj_frac.specs.Fraction.{IsRatio, IsWhole}
use Rattle.gj_fields.specs.Rational.{Rational, whole, rational, ◌*ℚ◌, ◌≤ℚ◌, IsWholeNumber, ◌+ℚ◌, ◌-ℚ◌}
use Rattle.gj_fields.proofs.RationalLaws.{whole_add, whole_sub, equal_q, product_is, mul_comm_q, whole_bottom}
use Rattle.gj_fields.proofs.RationalOrder.{IsNonnegativeQ, whole_nonnegative, difference_nonnegative, at_most_whole, at_most_scaled, at_most_cancel}
use Rattle.gj_fields.proofs.RationalRing.{by_ring_q, ring_q}
use Rattle.gj_problem.proofs.HeldInequalities.{whole_frac}
use Rattle.gj_problem.proofs.Numerators.{ratio_whole}
use Rattle.gj_problem.proofs.TurnedColumns.{below_floor}
use Rattle.gj_problem.specs.Moves.{IsGridValue, IsBelowOnGrid}

-- n times k/n is k
ratio_times : (y : Frac) (k n : ℤ) → IsRatio y k n → whole n *ℚ rational y ≡ whole k
unfolding whole
ratio_times y k n h =
    let p = rational y *ℚ whole n in
    mul_comm_q (whole n) (rational y)
    ∙ equal_q p (whole k)
    (ratio_whole p.top p.bottom y.num y.den n k y.lowest.positive
    (product_is (rational y) (whole n)) h)

floor_low : (s : Frac) (k : ℤ) → IsFloor s k → whole k ≤ℚ rational s
unfolding whole
floor_low s k floor = record { crosswise = omega (arith, ints, floor.at_most) }

-- the floor of n x over n
pub below_from_floor : (n : ℕ) (x y s : Frac) (k : ℤ) → 0 < n →
    rational s ≡ whole (pos n) *ℚ rational x → IsFloor s k →
    IsRatio y k (pos n) → IsBelowOnGrid n (rational x) (rational y)
below_from_floor n x y s k some s_is floor y_is =
    let times : whole (pos n) *ℚ rational y ≡ whole k = ratio_times y k (pos n) y_is in
    record {
      on_grid = (k, times);
      at_most = at_most_cancel n (rational y) (rational x) some
          (subst₂ (λ a b. a ≤ℚ b) (sym times) s_is (floor_low s k floor));
      greatest = λ z on below.
          let at_scale : whole on.0 ≤ℚ rational s =
          subst₂ (λ a b. a ≤ℚ b) on.1 (sym s_is) (at_most_scaled n z (rational x) below) in
          let least = below_floor s k on.0 floor at_scale in
          at_most_cancel n z (rational y) some
          (subst₂ (λ a b. a ≤ℚ b) (sym on.1) (sym times)
          (at_most_whole on.0 k (omega (arith, ints))));
    }

-- a number is on the grid exactly if n times it is whole
pub on_grid_if_whole : (n : ℕ) (x s : Frac) → rational s ≡ whole (pos n) *ℚ rational x → IsWhole s →
    IsGridValue n (rational x)
on_grid_if_whole n x s s_is h = subst IsWholeNumber s_is (whole_frac s h)

pub whole_if_on_grid : (n : ℕ) (x s : Frac) → rational s ≡ whole (pos n) *ℚ rational x →
    IsGridValue n (rational x) → IsWhole s
whole_if_on_grid n x s s_is on = ap (λ (q : Rational). q.bottom) (s_is ∙ on.1) ∙ whole_bottom on.0

-- ---- the next number on the grid

times_next : (n y z : Rational) → n *ℚ z ≡ n *ℚ y +ℚ n *ℚ (z -ℚ y)
times_next n y z = by_ring_q (n ∷ y ∷ z ∷ []) (search ring_q depth 40) refl

-- what is 1/n above y is above x
pub near_below : (n : ℕ) (x y z : Rational) → IsBelowOnGrid n x y →
    whole (pos n) *ℚ (z -ℚ y) ≡ whole (pos 1) → z ≤ℚ x → ⊥
near_below n x y z h step below =
    let (k, k_is) = h.on_grid in
    let z_is : whole (pos n) *ℚ z ≡ whole (k +ℤ pos 1) =
    times_next (whole (pos n)) y z ∙ ap₂ (λ a b. a +ℚ b) k_is step ∙ sym (whole_add k (pos 1)) in
    let scaled : whole (k +ℤ pos 1) ≤ℚ whole k =
    subst₂ (λ a b. a ≤ℚ b) z_is k_is
    (at_most_scaled n z y (h.greatest z (k +ℤ pos 1, z_is) below)) in
    let low : pos 0 ≤ℤ (k -ℤ (k +ℤ pos 1)) =
    whole_nonnegative _ (subst IsNonnegativeQ (sym (whole_sub k (k +ℤ pos 1)))
    (difference_nonnegative _ _ scaled)) in
    absurd (omega (arith, ints))
