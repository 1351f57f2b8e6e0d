use Rattle.std.proofs.Common.{◌≡◌, ◌+◌, ◌<◌, Vec, Global, ℤ, All, map, pos, length, get_or, to_z, of_z, refl, sym, ap, subst, ◌∙◌, arith, rules}
use Rattle.std.specs.List.{range_with_len}
use Rattle.std.proofs.lemmas.Int.{to_z-of_z}
use Rattle.std.proofs.lemmas.Result.{err_from_is_err_and}
use Rattle.gj_frac.specs.Fraction.{Fits}
use Rattle.gj_perturb.specs.SlopeSums.{slope_at, slope_sum}
use Rattle.gj_perturb.proofs.SlopeValues.{first_sum, one_sum_more, wide_sum, slope_before_last, slope_there, all_sums}
use Rattle.gj_perturb.proofs.tables.from_slopes.Goals as goal
use Rattle.gj_perturb.proofs.tables.from_slopes.Goals.{in-Some+in_ok-push+else-loop-c-test, in_default}
use mir.Syntax.{w128}

pub loop-c-preserved : goal.loop-c-preserved
loop-c-preserved c =
    let component = c.args.component.now in
    let slopes = c.args.slopes.now in
    let before_last = c.in-Some.before_last.now in
    let n = c.loop-c.c-index in
    let below : c.loop-c.c-index + 1 < length c.args.component.now =
    let h = c.loop-c-test.true in let count = c.in-Some.ensures.cases.1 in omega arith in
    let slope = get_or slopes (get_or before_last n 0) (pos 0) in
    let slope_read : to_z w128 (of_z w128 slope) ≡ slope_at component slopes n =
    to_z-of_z w128 slope (search rules)
    ∙ slope_before_last component before_last slopes _ n c.in-Some.ensures.cases.0
    c.loop-c-test.true in
    let next_read = to_z-of_z w128 c.in_ok-value.value (search rules) in
    one_sum_more component slopes c.loop-c.values.items c.push-in-loop-c.new.self.items n
    (to_z w128 c.loop-c.value-bits)
    (to_z w128 (of_z w128 slope)) (to_z w128 (of_z w128 c.in_ok-value.value)) below
    c.loop-c.invariant slope_read
    c.in_ok-value.ensures.0 (next_read ∙ c.in_ok-value.ensures.1) c.in_ok-push-2.ensures.items

pub returns-in_err-value-clause-wide : goal.returns-in_err-value-clause-wide
returns-in_err-value-clause-wide c =
    let component = c.args.component.now in
    let slopes = c.args.slopes.now in
    let before_last = c.in-Some.before_last.now in
    let n = c.loop-c.c-index in
    let below : c.loop-c.c-index + 1 < length c.args.component.now =
    let h = c.loop-c-test.true in let count = c.in-Some.ensures.cases.1 in omega arith in
    let slope = get_or slopes (get_or before_last n 0) (pos 0) in
    let slope_read : to_z w128 (of_z w128 slope) ≡ slope_at component slopes n =
    to_z-of_z w128 slope (search rules)
    ∙ slope_before_last component before_last slopes _ n c.in-Some.ensures.cases.0
    c.loop-c-test.true in
    λ is_wide. wide_sum component slopes c.loop-c.values.items n (to_z w128 c.loop-c.value-bits)
    (to_z w128 (of_z w128 slope))
    below c.loop-c.invariant slope_read c.in_err-value.ensures

pub returns-in_err-values-clause-times : goal.returns-in_err-values-clause-times
returns-in_err-values-clause-times c =
    rw (err_from_is_err_and c.from_residual.result c.from_residual.ensures.1).1 tt

pub returns-in_err-values-clause-values : goal.returns-in_err-values-clause-values
returns-in_err-values-clause-values c =
    rw (err_from_is_err_and c.from_residual.result c.from_residual.ensures.1).1 tt

pub returns-in_err-values-clause-narrow : goal.returns-in_err-values-clause-narrow
returns-in_err-values-clause-narrow c =
    rw (err_from_is_err_and c.from_residual.result c.from_residual.ensures.1).1 tt

pub returns-in_err-push-clause-times : goal.returns-in_err-push-clause-times
returns-in_err-push-clause-times c =
    rw (err_from_is_err_and c.from_residual-in_err-push.result
    c.from_residual-in_err-push.ensures.1).1 tt

pub returns-in_err-push-clause-values : goal.returns-in_err-push-clause-values
returns-in_err-push-clause-values c =
    rw (err_from_is_err_and c.from_residual-in_err-push.result
    c.from_residual-in_err-push.ensures.1).1 tt

pub returns-in_err-push-clause-narrow : goal.returns-in_err-push-clause-narrow
returns-in_err-push-clause-narrow c =
    rw (err_from_is_err_and c.from_residual-in_err-push.result
    c.from_residual-in_err-push.ensures.1).1 tt

pub returns-in_err-value-clause-times : goal.returns-in_err-value-clause-times
returns-in_err-value-clause-times c =
    rw (err_from_is_err_and c.from_residual-in_err-value.result
    c.from_residual-in_err-value.ensures.1).1 tt

pub returns-in_err-value-clause-values : goal.returns-in_err-value-clause-values
returns-in_err-value-clause-values c =
    rw (err_from_is_err_and c.from_residual-in_err-value.result
    c.from_residual-in_err-value.ensures.1).1 tt

pub returns-in_err-value-clause-narrow : goal.returns-in_err-value-clause-narrow
returns-in_err-value-clause-narrow c =
    rw (err_from_is_err_and c.from_residual-in_err-value.result
    c.from_residual-in_err-value.ensures.1).1 tt

pub returns-in_err-push-2-clause-times : goal.returns-in_err-push-2-clause-times
returns-in_err-push-2-clause-times c =
    rw (err_from_is_err_and c.from_residual-in_err-push-2.result
    c.from_residual-in_err-push-2.ensures.1).1 tt

pub returns-in_err-push-2-clause-values : goal.returns-in_err-push-2-clause-values
returns-in_err-push-2-clause-values c =
    rw (err_from_is_err_and c.from_residual-in_err-push-2.result
    c.from_residual-in_err-push-2.ensures.1).1 tt

pub returns-in_err-push-2-clause-narrow : goal.returns-in_err-push-2-clause-narrow
returns-in_err-push-2-clause-narrow c =
    rw (err_from_is_err_and c.from_residual-in_err-push-2.result
    c.from_residual-in_err-push-2.ensures.1).1 tt

pub loop-c-init : goal.loop-c-init
loop-c-init c =
    let some : 0 < length c.args.component.now = let count = c.in-Some.ensures.cases.1 in
    omega arith in
    first_sum c.args.component.now c.args.slopes.now c.in_ok-values.values.items
    c.push.new.self.items some c.in_ok-values.ensures.items
    c.in_ok-push.ensures.items

pub bounds-slopes-c : goal.bounds-slopes-c
bounds-slopes-c c =
    let below : c.loop-c.c-index + 1 < length c.args.component.now =
    let h = c.loop-c-test.true in let count = c.in-Some.ensures.cases.1 in omega arith in
    slope_there c.args.component.now c.in-Some.before_last.now _ c.loop-c.c-index
    (length c.args.slopes.now) c.in-Some.ensures.cases.0
    c.loop-c-test.true below c.requires.components

pub returns-clause-times : goal.returns-clause-times
returns-clause-times c = refl

pub returns-clause-values : goal.returns-clause-values
returns-clause-values c =
    let component = c.args.component.now in
    let slopes = c.args.slopes.now in
    elim c.match-split_last.branch [
      | in-Some+in_ok-push+else-loop-c-test w ↦ let e : w.loop-c.c-index + 1 ≡ length component =
          let h = w.loop-c-test.false in let n = w.loop-c.auto.c-index-end in
          let count = w.in-Some.ensures.cases.1 in omega arith in
          c.of.ensures ∙ ap (λ (v : Vec ℤ Global). v.items) w.values-is
          ∙ all_sums component slopes w.loop-c.values.items w.loop-c.c-index
          (to_z w128 w.loop-c.value-bits) e w.loop-c.invariant
      | in_default w ↦ c.of.ensures ∙ ap (λ (v : Vec ℤ Global). v.items) w.values-is
          ∙ c.in_ok-values.ensures.items
          ∙ ap (λ m. map (slope_sum component slopes) (range_with_len 0 m))
          (sym w.in_default.ensures.cases)
    ]

pub returns-clause-narrow : goal.returns-clause-narrow
returns-clause-narrow c =
    elim c.match-split_last.branch [
      | in-Some+in_ok-push+else-loop-c-test w ↦ subst (All Fits)
          (sym (c.of.ensures ∙ ap (λ (v : Vec ℤ Global). v.items) w.values-is))
          w.loop-c.invariant.narrow
      | in_default w ↦ subst (All Fits)
          (sym (c.of.ensures ∙ ap (λ (v : Vec ℤ Global). v.items) w.values-is
          ∙ c.in_ok-values.ensures.items))
          (λ k d h. absurd (omega arith))
    ]
