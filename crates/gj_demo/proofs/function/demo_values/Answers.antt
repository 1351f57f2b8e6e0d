use Rattle.std.proofs.Common.{◌+◌, ◌*◌, pos, length, ap, sym, subst, ◌∙◌}
use Rattle.std.proofs.lemmas.List.{length_push}
use Rattle.gj_shape.specs.Given.{AreOver}
use Rattle.gj_shape.proofs.GivenFractions.{are_over_push}
use Rattle.gj_demo.specs.Demo.{demo_number}
use Rattle.gj_demo.proofs.function.demo_values.Goals as goal

pub loop-i-preserved : goal.loop-i-preserved
loop-i-preserved c =
    let k = c.args.k in
    let pushed = c.in_ok-push.ensures.items in
    record {
      count = ap length pushed ∙ length_push _ _ ∙ ap (λ n. n + 1) c.loop-i.invariant.count;
      values = subst (AreOver (λ i. pos (demo_number k i)) (2 * k)) (sym pushed)
          (are_over_push (λ i. pos (demo_number k i)) (2 * k) _ c.demo_value.result c.loop-i.i
          c.loop-i.invariant.count
          c.loop-i.invariant.values c.demo_value.ensures);
    }
