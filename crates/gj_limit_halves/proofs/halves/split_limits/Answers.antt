use Rattle.std.proofs.Common.{◌≡◌, ◌*◌, pos, neg_ℤ, refl, sym, ap, ap₂, subst₂, ◌∙◌, rules}
use Rattle.std.proofs.lemmas.Int.{to_z-of_z}
use Rattle.gj_lemmas.proofs.Integers.{abs_neg_z}
use Rattle.gj_shape.specs.declared.extremality.LimitHalves.{LimitHalves}
use Rattle.gj_perturb.proofs.MovedEntries.{wide}
use Rattle.gj_perturb.proofs.SplitParts.{step_read, size_fits, factor_read, turned_read}
use Rattle.gj_limit_halves.specs.Moves.{AreSmallSides, moved_by}
use Rattle.gj_limit_halves.proofs.LimitSplits.{small_sides, sides_same, are_halves, are_shown, within_limits, not_wide}
use Rattle.gj_limit_halves.proofs.halves.split_limits.Goals as goal
use mir.Syntax.{w128}

pub moved_sides-requires-clause-small : goal.moved_sides-requires-clause-small
moved_sides-requires-clause-small c =
    let f = c.args.shape.now in
    let m = c.args.times in
    let size = c.greatest_of-size.result in
    let u = c.in_ok-least.least in
    let bounds = c.order.ensures.limits in
    let can = c.requires.perturbation in
    let narrow = c.in-Some.ensures.1 in
    let factor_is = factor_read size
    (size_fits size f.scale m bounds.scale_low can.times_low narrow) in
    let step_is : wide c.from-step.result ≡ pos u = ap wide c.from-step.ensures
    ∙ step_read u (search rules) in
    subst₂ (λ a b. AreSmallSides f m a b c.args.perturbation.now) (sym factor_is) (sym step_is)
    (small_sides f m size u c.args.perturbation.now bounds c.requires.minimal can
    c.greatest_of-size.ensures narrow
    c.in_ok-least.ensures (pos u) refl)

pub moved_sides-requires-2-clause-small : goal.moved_sides-requires-2-clause-small
moved_sides-requires-2-clause-small c =
    let f = c.args.shape.now in
    let m = c.args.times in
    let size = c.greatest_of-size.result in
    let u = c.in_ok-least.least in
    let bounds = c.order.ensures.limits in
    let can = c.requires.perturbation in
    let narrow = c.in-Some.ensures.1 in
    let factor_is = factor_read size
    (size_fits size f.scale m bounds.scale_low can.times_low narrow) in
    let step_is : wide c.from-step.result ≡ pos u = ap wide c.from-step.ensures
    ∙ step_read u (search rules) in
    let turned_is = turned_read (wide c.from-step.result) u step_is (search rules) in
    subst₂ (λ a b. AreSmallSides f m a b c.args.perturbation.now) (sym factor_is) (sym turned_is)
    (small_sides f m size u c.args.perturbation.now bounds c.requires.minimal can
    c.greatest_of-size.ensures narrow
    c.in_ok-least.ensures (neg_ℤ (pos u)) (abs_neg_z (pos u)))

pub returns : goal.returns
returns c =
    let f = c.args.shape.now in
    let m = c.args.times in
    let s = c.args.perturbation.now in
    let size = c.greatest_of-size.result in
    let u = c.in_ok-least.least in
    let bounds = c.order.ensures.limits in
    let minimal = c.requires.minimal in
    let can = c.requires.perturbation in
    let greatest = c.greatest_of-size.ensures in
    let narrow = c.in-Some.ensures.1 in
    let least = c.in_ok-least.ensures in
    let factor_is = factor_read size
    (size_fits size f.scale m bounds.scale_low can.times_low narrow) in
    let step_is : wide c.from-step.result ≡ pos u = ap wide c.from-step.ensures
    ∙ step_read u (search rules) in
    let turned_is = turned_read (wide c.from-step.result) u step_is (search rules) in
    let order_is = ap (λ k. k * m) c.order.ensures.value in
    let scale_is = to_z-of_z w128 c.in-Some.scale (search rules) ∙ c.in-Some.ensures.0 in
    let same = sides_same f m size u s bounds minimal can greatest narrow least in
    let first_is =
    c.in_ok-first.ensures ∙ ap₂ (λ a b. moved_by f m a b s) factor_is step_is ∙ same (pos u) in
    let second_is =
    c.in_ok-second.ensures ∙ ap₂ (λ a b. moved_by f m a b s) factor_is turned_is
    ∙ same (neg_ℤ (pos u)) in
    let halves : LimitHalves =
    record {
      order = c.order.result * m;
      scale = wide c.in-Some.scale;
      first = c.in_ok-first.first;
      second = c.in_ok-second.second;
    } in
    record {
      halves = are_halves f m size u s bounds minimal can greatest narrow least halves order_is
          scale_is first_is second_is;
      shown = are_shown f m size u s bounds minimal can greatest narrow least halves order_is
          scale_is first_is second_is
          c.corners_bound_limits.ensures c.perturbations_give_parts.ensures;
      limits = within_limits f m size u s bounds minimal can greatest narrow least halves order_is
          scale_is first_is second_is;
      narrow = not_wide f m _ size greatest narrow;
      wide = λ e. search rules;
    }
