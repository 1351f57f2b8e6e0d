use Rattle.std.proofs.Common.{◌≡◌, ◌≢◌, ℕ, ◌≤◌, ◌<◌, ◌*◌, ◌/◌, ◌⊎◌, ⊎_elim, inl, inr, refl, sym, ap, subst, arith}
use Rattle.std.specs.Prelude.{Result, IfErr}
use Rattle.std.proofs.lemmas.Result.{IfOk-weaker, IfErr-weaker}
use Rattle.gj_shape.specs.declared.faults.ShapeFault.{ShapeFault}
use Rattle.gj_shape.specs.FunctionData.{FunctionData, IsWithinBounds}
use Rattle.gj_shape.specs.Given.{AreOver, IsOrder, IsPlace, HasFault}
use Rattle.gj_shape.specs.Refinement.{AreRefined, refined}
use Rattle.gj_shape.proofs.GivenFractions.{given_as, fault_as, too_fine_of}
use Rattle.gj_shape.proofs.GridDenominators.{count_fits}
use Rattle.gj_shape.proofs.Refinements.{order_too_high, order_fits, refined_all_small, refinement_from_given}
use Rattle.gj_shape.proofs.shape.Shape.refine.Goals as goal
use Rattle.gj_shape.proofs.shape.Shape.refine.Goals.{then-times-eq0-via-then-times-eq0, then-times-eq0-via-else-times-eq0+then-times-order}

pub returns-then-times-eq0-clause-order : goal.returns-then-times-eq0-clause-order
returns-then-times-eq0-clause-order c =
    elim c.then-times-eq0.branch [
      | then-times-eq0-via-then-times-eq0 w ↦ (λ e. inl w.if-times-eq0.true, λ h. refl)
      | then-times-eq0-via-else-times-eq0+then-times-order w ↦ (
        λ e.
            let q = w.order.ensures.value in
            let low = w.order.ensures.limits.order_low in
            let some : 0 < w.order.result = omega arith in
            let high : 1000 < w.order.result * c.args.times =
            order_too_high w.order.result c.args.times some w.if-times-order.true in
            inr (subst (λ n. 1000 < n * c.args.times) q high),
        λ h. refl,
      )
    ]

not_both : {a b : ℕ} → b ≤ a → a < b → ⊥
not_both below above = omega arith

-- ---- what the calls need

-- the new order and place
fits_at : (f : FunctionData) (order m : ℕ) → IsWithinBounds f → order ≡ f.order → m ≢ 0 →
    m ≤ 1000 / order →
    IsOrder (f.order * m) × IsPlace (f.order * m) (f.place * m)
fits_at f order m limits is apart below =
    let some : 0 < m = omega arith in
    order_fits f.order f.place m (limits.order_low, limits.order_high)
    (limits.place_low, limits.place_high) some
    (subst (λ n. m ≤ 1000 / n) is below)

below_order : (f : FunctionData) (m : ℕ) →
    IsOrder (f.order * m) × IsPlace (f.order * m) (f.place * m) → f.place * m ≤ 1000
below_order f m fits =
    let high = fits.0.1 in
    let below = fits.1.1 in
    omega arith

pub refined_list-requires-clause-few : goal.refined_list-requires-clause-few
refined_list-requires-clause-few c =
    (fits_at c.args.self.now _ _ c.order.ensures.limits c.order.ensures.value c.if-times-eq0.false
    c.if-times-order.false).0.1

pub refined_list-requires-2-clause-few : goal.refined_list-requires-2-clause-few
refined_list-requires-2-clause-few c =
    (fits_at c.args.self.now _ _ c.order.ensures.limits c.order.ensures.value c.if-times-eq0.false
    c.if-times-order.false).0.1

pub refined_list-requires-3-clause-few : goal.refined_list-requires-3-clause-few
refined_list-requires-3-clause-few c =
    (fits_at c.args.self.now _ _ c.order.ensures.limits c.order.ensures.value c.if-times-eq0.false
    c.if-times-order.false).0.1

pub overflow_mul-order : goal.overflow_mul-order
overflow_mul-order c =
    let fits = fits_at c.args.self.now _ _ c.order.ensures.limits c.order.ensures.value
    c.if-times-eq0.false c.if-times-order.false in
    count_fits _ c.args.self.now.order _ c.order-2.ensures.value fits.0.1

pub overflow_mul-place : goal.overflow_mul-place
overflow_mul-place c =
    let f = c.args.self.now in
    let fits = fits_at f _ _ c.order.ensures.limits c.order.ensures.value c.if-times-eq0.false
    c.if-times-order.false in
    count_fits _ f.place _ c.place.ensures.value (below_order f _ fits)

-- ---- what it answers

pub returns-clause-order : goal.returns-clause-order
returns-clause-order c =
    let f = c.args.self.now in
    let m = c.args.times in
    let fits = fits_at f _ m c.order.ensures.limits c.order.ensures.value c.if-times-eq0.false
    c.if-times-order.false in (
      λ e.
          absurd (subst (λ (r : Result FunctionData ShapeFault). IfErr r
          (HasFault (c.order-2.result * m) (c.place.result * m) c.as_slice.result.now
          c.as_slice-2.result.now c.as_slice-3.result.now)) e c.new.ensures.fault
          (subst (λ n. IsOrder (n * m)) (sym c.order-2.ensures.value) fits.0)),
      λ (h : (m ≡ 0) ⊎ (1000 < f.order * m)).
          absurd (⊎_elim c.if-times-eq0.false
          (λ (high : 1000 < f.order * m). not_both fits.0.1 high) h),
    )

pub returns-clause-refined : goal.returns-clause-refined
returns-clause-refined c =
    let f = c.args.self.now in
    let m = c.args.times in
    let are : AreRefined f m c.in_ok-left.left.items c.in_ok-value.value.items
    c.in_ok-right.right.items = record {
      lengths = (
        c.in_ok-left.ensures.length,
        c.in_ok-value.ensures.length,
        c.in_ok-right.ensures.length,
      );
      left_is = subst (λ xs. AreOver (refined f xs m) (f.scale * m) c.in_ok-left.left.items)
          c.left_numerators.ensures.value
          c.in_ok-left.ensures.fractions;
      value_is = subst (λ xs. AreOver (refined f xs m) (f.scale * m) c.in_ok-value.value.items)
          c.value_numerators.ensures.value
          c.in_ok-value.ensures.fractions;
      right_is = subst (λ xs. AreOver (refined f xs m) (f.scale * m) c.in_ok-right.right.items)
          c.right_numerators.ensures.value
          c.in_ok-right.ensures.fractions;
    } in
    let some : 0 < m = omega arith in
    IfOk-weaker c.new.result _ _
    (λ g h. refinement_from_given f g m _ _ _ some c.order.ensures.limits are
    (given_as _ _ _ _ _ _ _ _ _ _ g (ap (λ n. n * m) c.order-2.ensures.value)
    (ap (λ n. n * m) c.place.ensures.value)
    c.as_slice.ensures.value c.as_slice-2.ensures.value c.as_slice-3.ensures.value h))
    c.new.ensures.given

pub returns-clause-fault : goal.returns-clause-fault
returns-clause-fault c =
    let f = c.args.self.now in
    let m = c.args.times in
    let are : AreRefined f m c.in_ok-left.left.items c.in_ok-value.value.items
    c.in_ok-right.right.items = record {
      lengths = (
        c.in_ok-left.ensures.length,
        c.in_ok-value.ensures.length,
        c.in_ok-right.ensures.length,
      );
      left_is = subst (λ xs. AreOver (refined f xs m) (f.scale * m) c.in_ok-left.left.items)
          c.left_numerators.ensures.value
          c.in_ok-left.ensures.fractions;
      value_is = subst (λ xs. AreOver (refined f xs m) (f.scale * m) c.in_ok-value.value.items)
          c.value_numerators.ensures.value
          c.in_ok-value.ensures.fractions;
      right_is = subst (λ xs. AreOver (refined f xs m) (f.scale * m) c.in_ok-right.right.items)
          c.right_numerators.ensures.value
          c.in_ok-right.ensures.fractions;
    } in
    let some : 0 < m = omega arith in
    let limits = c.order.ensures.limits in
    let below : m ≤ 1000 / f.order =
    subst (λ n. m ≤ 1000 / n) c.order.ensures.value c.if-times-order.false in
    let fits = order_fits f.order f.place m (limits.order_low, limits.order_high)
    (limits.place_low, limits.place_high) some below in
    let small = refined_all_small f m _ _ _ some limits are in
    IfErr-weaker c.new.result _ _
    (λ e h other. too_fine_of (AreRefined f m) (f.order * m)
    (f.place * m) _ _ _ e fits.0 fits.1 are.lengths small.0 small.1 small.2 are
    (fault_as _ _ _ _ _ _ _ _ _ _ e (ap (λ n. n * m) c.order-2.ensures.value)
    (ap (λ n. n * m) c.place.ensures.value)
    c.as_slice.ensures.value c.as_slice-2.ensures.value c.as_slice-3.ensures.value h))
    c.new.ensures.fault
