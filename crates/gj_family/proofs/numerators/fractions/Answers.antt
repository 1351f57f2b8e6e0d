use Rattle.std.proofs.Common.{◌≡◌, ◌+◌, ◌<◌, pos, length, get_or, w64, to_z, of_z, sym, ap, subst, ◌∙◌, rules, arith}
use Rattle.std.proofs.lemmas.Int.{to_z-of_z}
use Rattle.std.proofs.lemmas.List.{length_push}
use Rattle.gj_frac.specs.Fraction.{IsRatio}
use Rattle.gj_shape.specs.FunctionData.{at}
use Rattle.gj_shape.specs.Given.{AreOver}
use Rattle.gj_shape.proofs.AtLemmas.{at_below}
use Rattle.gj_shape.proofs.GivenFractions.{are_over_push}
use Rattle.gj_family.proofs.numerators.fractions.Goals as goal

pub loop-numerator-preserved : goal.loop-numerator-preserved
loop-numerator-preserved c =
    let i = c.loop-numerator.numerator-index in
    let ns = c.args.numerators.now in
    let d = c.args.denominator in
    let inside : i < length ns = omega arith in
    let read : to_z w64 (of_z w64 (get_or ns i (pos 0))) ≡ at ns i = to_z-of_z w64 _ (search rules)
    ∙ sym (at_below ns i inside) in
    let is : IsRatio c.ratio.result (at ns i) (pos d) =
    subst (λ n. IsRatio c.ratio.result n (pos d)) read c.ratio.ensures in
    let pushed = c.in_ok-push.ensures.items in
    record {
      count = ap length pushed ∙ length_push _ _ ∙ ap (λ n. n + 1) c.loop-numerator.invariant.count;
      fractions = subst (AreOver _ _) (sym pushed)
          (are_over_push (at ns) d _ c.ratio.result i c.loop-numerator.invariant.count
          c.loop-numerator.invariant.fractions is);
    }
