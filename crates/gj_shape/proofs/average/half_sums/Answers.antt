use Rattle.std.proofs.Common.{◌≡◌, ◌+◌, ◌*◌, ◌<◌, pos, ◌+ℤ◌, ◌*ℤ◌, length, get_or, w64, to_z, of_z, sym, ap, ap₂, subst, subst₂, ◌∙◌, rules, arith}
use Rattle.std.proofs.Math.Nat.{mul-pos}
use Rattle.std.proofs.lemmas.Int.{ints, to_z-of_z}
use Rattle.std.proofs.lemmas.List.{length_push}
use Rattle.gj_frac.specs.Fraction.{IsRatio}
use Rattle.gj_shape.specs.FunctionData.{at}
use Rattle.gj_shape.specs.Given.{AreOver}
use Rattle.gj_shape.proofs.AtLemmas.{at_below}
use Rattle.gj_shape.proofs.Averages.{double_product, scales_below}
use Rattle.gj_shape.proofs.GivenFractions.{are_over_push}
use Rattle.gj_shape.proofs.average.half_sums.Goals as goal
use mir.Syntax.{w128}

pub overflow_add-numerator : goal.overflow_add-numerator
overflow_add-numerator c = omega (arith, ints)

pub reduced-requires-clause-zero : goal.reduced-requires-clause-zero
reduced-requires-clause-zero c =
    let whole = double_product _ _ c.args.scale c.args.other_scale c.from.ensures c.from-2.ensures
    c.requires.high c.requires.other_high in
    let some = mul-pos c.requires.low c.requires.other_low in
    omega (arith, ints)

pub reduced-requires-clause-den_fits : goal.reduced-requires-clause-den_fits
reduced-requires-clause-den_fits c =
    let whole = double_product _ _ c.args.scale c.args.other_scale c.from.ensures c.from-2.ensures
    c.requires.high c.requires.other_high in
    let below = scales_below c.args.scale c.args.other_scale c.requires.high
    c.requires.other_high in
    omega (arith, ints)

pub loop-i-preserved : goal.loop-i-preserved
loop-i-preserved c =
    let i = c.loop-i.i in
    let xs = c.args.entries.now in
    let ys = c.args.other_entries.now in
    let s = c.args.scale in
    let o = c.args.other_scale in
    let in_xs : i < length xs = omega arith in
    let in_ys : i < length ys = omega arith in
    let sum : to_z w128 (of_z w128
    (to_z w128 (of_z w128 c.weighted.result) +ℤ to_z w128
    (of_z w128 c.weighted-in-loop-i.result)))
    ≡ c.weighted.result +ℤ c.weighted-in-loop-i.result = omega (arith, ints) in
    let x : to_z w64 (of_z w64 (get_or xs i (pos 0))) ≡ at xs i = to_z-of_z w64 _ (search rules)
    ∙ sym (at_below xs i in_xs) in
    let y : to_z w64 (of_z w64 (get_or ys i (pos 0))) ≡ at ys i = to_z-of_z w64 _ (search rules)
    ∙ sym (at_below ys i in_ys) in
    let numerator = sum ∙ ap₂ (λ a b. a +ℤ b) (c.weighted.ensures.value ∙ ap (λ z. pos o *ℤ z) x)
    (c.weighted-in-loop-i.ensures.value ∙ ap (λ z. pos s *ℤ z) y) in
    let denominator = double_product _ _ s o c.from.ensures c.from-2.ensures c.requires.high
    c.requires.other_high in
    let is : IsRatio c.reduced.result (pos o *ℤ at xs i +ℤ pos s *ℤ at ys i) (pos (2 * (s * o))) =
    subst₂ (λ a b. IsRatio c.reduced.result a b) numerator denominator c.reduced.ensures in
    let pushed = c.in_ok-push.ensures.items in
    record {
      count = ap length pushed ∙ length_push _ _ ∙ ap (λ n. n + 1) c.loop-i.invariant.count;
      fractions = subst (AreOver _ _) (sym pushed)
          (are_over_push (λ j. pos o *ℤ at xs j +ℤ pos s *ℤ at ys j)
          (2 * (s * o)) _ c.reduced.result i
          c.loop-i.invariant.count c.loop-i.invariant.fractions is);
    }
