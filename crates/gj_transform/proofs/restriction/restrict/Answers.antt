use Rattle.std.proofs.Common.{◌≡◌, ℕ, ◌≤◌, ◌*◌, ◌/◌, ◌%◌, unsigned_abs, to_z, of_z, refl, sym, ap, subst, ◌∙◌, rules, arith}
use Rattle.std.specs.Int.{◌∣◌}
use Rattle.std.proofs.lemmas.Int.{to_z-of_z}
use Rattle.std.proofs.lemmas.Nat.Gcd.{dvd_of_mod-eq-zero}
use Rattle.std.proofs.lemmas.Result.{err_from_is_err_and}
use Rattle.gj_shape.specs.FunctionData.{FunctionData, IsWithinBounds}
use Rattle.gj_transform.specs.Transforms.{IsRestrictionOf, IsRestrictionStep}
use Rattle.gj_transform.proofs.AtFractions.{restriction_values}
use Rattle.gj_transform.proofs.MadeFunctions.{function_as}
use Rattle.gj_transform.proofs.MadeRestriction.{AreReduced, reduced_as, restriction_made, restriction_within, not_refused, no_step, no_place}
use Rattle.gj_transform.proofs.RestrictionTables.{restriction_minimal}
use Rattle.gj_transform.proofs.restriction.restrict.Goals as goal
use mir.Syntax.{w128}

-- what is known once the place is tested
step_from : (f : FunctionData) (d s k : ℕ) → 2 ≤ d → f.order ≡ d * s → k ≡ f.place → k % s ≡ 0 →
    IsRestrictionStep f d s
step_from f d s k least divides place rest = record {
  at_least = least;
  divides = divides;
  place = subst (λ (n : ℕ). s ∣ n) place (dvd_of_mod-eq-zero s rest);
}

-- ---- if there is a restriction

pub returns-clause-order : goal.returns-clause-order
returns-clause-order c =
    let step = step_from c.args.shape.now c.args.order c.in-Some.step _ c.in-Some.ensures.least
    c.in-Some.ensures.divides
    c.place.ensures.value c.if-rest-ne0.false in
    not_refused _ _ _ _ _ (search rules) step

pub returns-in_default-clause-order : goal.returns-in_default-clause-order
returns-in_default-clause-order c =
    (λ e. no_step c.args.shape.now c.args.order c.in_default.ensures.none, λ none. refl)

pub returns-then-rest-ne0-clause-order : goal.returns-then-rest-ne0-clause-order
returns-then-rest-ne0-clause-order c =
    let f = c.args.shape.now in
    let s = c.in-Some.step in
    let least = c.in-Some.ensures.least in (
      λ e. no_place f c.args.order s (omega arith) c.in-Some.ensures.divides
          (λ none. c.if-rest-ne0.true (ap (λ k. k % s) c.place.ensures.value ∙ none)),
      λ none. refl,
    )

pub returns-in_err-taken-clause-order : goal.returns-in_err-taken-clause-order
returns-in_err-taken-clause-order c =
    let step = step_from c.args.shape.now c.args.order c.in-Some.step _ c.in-Some.ensures.least
    c.in-Some.ensures.divides
    c.place.ensures.value c.if-rest-ne0.false in
    not_refused _ _ _ _ _ (search rules) step

pub returns-in_err-left-clause-order : goal.returns-in_err-left-clause-order
returns-in_err-left-clause-order c =
    let step = step_from c.args.shape.now c.args.order c.in-Some.step _ c.in-Some.ensures.least
    c.in-Some.ensures.divides
    c.place.ensures.value c.if-rest-ne0.false in
    not_refused _ _ _ _ _ (search rules) step

pub returns-in_err-value-clause-order : goal.returns-in_err-value-clause-order
returns-in_err-value-clause-order c =
    let step = step_from c.args.shape.now c.args.order c.in-Some.step _ c.in-Some.ensures.least
    c.in-Some.ensures.divides
    c.place.ensures.value c.if-rest-ne0.false in
    not_refused _ _ _ _ _ (search rules) step

pub returns-in_err-right-clause-order : goal.returns-in_err-right-clause-order
returns-in_err-right-clause-order c =
    let step = step_from c.args.shape.now c.args.order c.in-Some.step _ c.in-Some.ensures.least
    c.in-Some.ensures.divides
    c.place.ensures.value c.if-rest-ne0.false in
    not_refused _ _ _ _ _ (search rules) step

-- ---- the restriction

pub returns-clause-restriction : goal.returns-clause-restriction
returns-clause-restriction c =
    let f = c.args.shape.now in
    let limits = c.place.ensures.limits in
    let step = step_from f c.args.order c.in-Some.step _ c.in-Some.ensures.least
    c.in-Some.ensures.divides c.place.ensures.value c.if-rest-ne0.false in
    let scale : unsigned_abs (to_z w128 (of_z w128 c.common_denominator-scale.result)) ≡ f.scale =
    ap unsigned_abs (to_z-of_z w128 _ (search rules) ∙ c.common_denominator-scale.ensures.value) in
    let reduced : AreReduced f c.args.order c.in-Some.step c.greatest_divisor-divisor.result
    c.in_ok-taken.taken.items c.in_ok-left.left.items =
    reduced_as f _ _ _ _ _ _ _ _ _ step c.value_numerators.ensures.value c.in_ok-taken.ensures scale
    c.as_slice.ensures.value
    c.greatest_divisor-divisor.ensures.divisor c.greatest_divisor-divisor.ensures.some
    c.as_slice-2.ensures.value c.in_ok-left.ensures in
    let place = ap (λ k. k / c.in-Some.step) c.place-2.ensures.value in
    let value = c.in_ok-value.ensures.items ∙ c.as_slice-3.ensures.value in
    let right = c.in_ok-right.ensures.items ∙ c.as_slice-4.ensures.value in
    let is = function_as refl place (ap (λ s. s / c.greatest_divisor-divisor.result) scale) refl
    value right in
    subst (IsRestrictionOf f c.args.order) (sym (c.from_numerators.ensures ∙ is))
    (restriction_made f _ _ _ _ _ limits reduced)

pub returns-clause-values : goal.returns-clause-values
returns-clause-values c =
    let within : IsWithinBounds c.from_numerators.result = search rules in
    restriction_values c.args.shape.now c.from_numerators.result c.args.order c.place.ensures.limits
    within (returns-clause-restriction c)

pub returns-clause-minimal : goal.returns-clause-minimal
returns-clause-minimal c =
    let f = c.args.shape.now in
    let g = c.from_numerators.result in
    let within : IsWithinBounds g = search rules in
    restriction_minimal f g c.args.order c.place.ensures.limits within
    (returns-clause-restriction c)

pub from_numerators-requires : goal.from_numerators-requires
from_numerators-requires c =
    let f = c.args.shape.now in
    let limits = c.place.ensures.limits in
    let step = step_from f c.args.order c.in-Some.step _ c.in-Some.ensures.least
    c.in-Some.ensures.divides c.place.ensures.value c.if-rest-ne0.false in
    let scale : unsigned_abs (to_z w128 (of_z w128 c.common_denominator-scale.result)) ≡ f.scale =
    ap unsigned_abs (to_z-of_z w128 _ (search rules) ∙ c.common_denominator-scale.ensures.value) in
    let reduced : AreReduced f c.args.order c.in-Some.step c.greatest_divisor-divisor.result
    c.in_ok-taken.taken.items c.in_ok-left.left.items =
    reduced_as f _ _ _ _ _ _ _ _ _ step c.value_numerators.ensures.value c.in_ok-taken.ensures scale
    c.as_slice.ensures.value
    c.greatest_divisor-divisor.ensures.divisor c.greatest_divisor-divisor.ensures.some
    c.as_slice-2.ensures.value c.in_ok-left.ensures in
    let place = ap (λ k. k / c.in-Some.step) c.place-2.ensures.value in
    let value = c.in_ok-value.ensures.items ∙ c.as_slice-3.ensures.value in
    let right = c.in_ok-right.ensures.items ∙ c.as_slice-4.ensures.value in
    let is = function_as refl place (ap (λ s. s / c.greatest_divisor-divisor.result) scale) refl
    value right in
    subst IsWithinBounds (sym is) (restriction_within f _ _ _ _ _ limits reduced)

pub returns-in_err-taken-clause-restriction : goal.returns-in_err-taken-clause-restriction
returns-in_err-taken-clause-restriction c =
    rw (err_from_is_err_and c.from_residual.result c.from_residual.ensures.1).1 tt

pub returns-in_err-taken-clause-within : goal.returns-in_err-taken-clause-within
returns-in_err-taken-clause-within c =
    rw (err_from_is_err_and c.from_residual.result c.from_residual.ensures.1).1 tt

pub returns-in_err-taken-clause-values : goal.returns-in_err-taken-clause-values
returns-in_err-taken-clause-values c =
    rw (err_from_is_err_and c.from_residual.result c.from_residual.ensures.1).1 tt

pub returns-in_err-taken-clause-minimal : goal.returns-in_err-taken-clause-minimal
returns-in_err-taken-clause-minimal c =
    rw (err_from_is_err_and c.from_residual.result c.from_residual.ensures.1).1 tt

pub returns-in_err-left-clause-restriction : goal.returns-in_err-left-clause-restriction
returns-in_err-left-clause-restriction c =
    rw (err_from_is_err_and c.from_residual-in_err-left.result
    c.from_residual-in_err-left.ensures.1).1 tt

pub returns-in_err-left-clause-within : goal.returns-in_err-left-clause-within
returns-in_err-left-clause-within c =
    rw (err_from_is_err_and c.from_residual-in_err-left.result
    c.from_residual-in_err-left.ensures.1).1 tt

pub returns-in_err-left-clause-values : goal.returns-in_err-left-clause-values
returns-in_err-left-clause-values c =
    rw (err_from_is_err_and c.from_residual-in_err-left.result
    c.from_residual-in_err-left.ensures.1).1 tt

pub returns-in_err-left-clause-minimal : goal.returns-in_err-left-clause-minimal
returns-in_err-left-clause-minimal c =
    rw (err_from_is_err_and c.from_residual-in_err-left.result
    c.from_residual-in_err-left.ensures.1).1 tt

pub returns-in_err-value-clause-restriction : goal.returns-in_err-value-clause-restriction
returns-in_err-value-clause-restriction c =
    rw (err_from_is_err_and c.from_residual-in_err-value.result
    c.from_residual-in_err-value.ensures.1).1 tt

pub returns-in_err-value-clause-within : goal.returns-in_err-value-clause-within
returns-in_err-value-clause-within c =
    rw (err_from_is_err_and c.from_residual-in_err-value.result
    c.from_residual-in_err-value.ensures.1).1 tt

pub returns-in_err-value-clause-values : goal.returns-in_err-value-clause-values
returns-in_err-value-clause-values c =
    rw (err_from_is_err_and c.from_residual-in_err-value.result
    c.from_residual-in_err-value.ensures.1).1 tt

pub returns-in_err-value-clause-minimal : goal.returns-in_err-value-clause-minimal
returns-in_err-value-clause-minimal c =
    rw (err_from_is_err_and c.from_residual-in_err-value.result
    c.from_residual-in_err-value.ensures.1).1 tt

pub returns-in_err-right-clause-restriction : goal.returns-in_err-right-clause-restriction
returns-in_err-right-clause-restriction c =
    rw (err_from_is_err_and c.from_residual-in_err-right.result
    c.from_residual-in_err-right.ensures.1).1 tt

pub returns-in_err-right-clause-within : goal.returns-in_err-right-clause-within
returns-in_err-right-clause-within c =
    rw (err_from_is_err_and c.from_residual-in_err-right.result
    c.from_residual-in_err-right.ensures.1).1 tt

pub returns-in_err-right-clause-values : goal.returns-in_err-right-clause-values
returns-in_err-right-clause-values c =
    rw (err_from_is_err_and c.from_residual-in_err-right.result
    c.from_residual-in_err-right.ensures.1).1 tt

pub returns-in_err-right-clause-minimal : goal.returns-in_err-right-clause-minimal
returns-in_err-right-clause-minimal c =
    rw (err_from_is_err_and c.from_residual-in_err-right.result
    c.from_residual-in_err-right.ensures.1).1 tt
