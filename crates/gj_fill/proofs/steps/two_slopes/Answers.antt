use Rattle.std.proofs.Common.{◌≡◌, ◌≢◌, ◌⊎◌, neg_ℤ, true, refl, below_more, arith}
use Rattle.std.proofs.lemmas.Int.{ints}
use Rattle.gj_shape.specs.TwoSlopes.{rise}
use Rattle.gj_fill.proofs.Extremes.{not_one_slope, one_of_steps, are_two_slopes}
use Rattle.gj_fill.proofs.steps.two_slopes.Goals as goal

pub returns-then-steps : goal.returns-then-steps
returns-then-steps c =
    let s = c.greatest_steps-steps.result.rise in
    let t = c.greatest_steps-steps.result.fall in
    let greatest = c.greatest_steps-steps.ensures in (
      λ no. absurd (cc),
      λ two. absurd
          (not_one_slope c.args.shape.now s t greatest (omega (arith, ints)) two),
    )

pub returns-then-not-goes_by_step : goal.returns-then-not-goes_by_step
returns-then-not-goes_by_step c =
    let s = c.greatest_steps-steps.result.rise in
    let t = c.greatest_steps-steps.result.fall in
    let apart : s ≢ neg_ℤ t = λ e. omega (arith, ints) in (
      λ no. absurd (cc),
      λ two.
          let goes = one_of_steps c.args.shape.now s t c.loop-a.a c.greatest_steps-steps.ensures
          apart two in
          let is : c.goes_by_step.result ≡ true = c.goes_by_step.ensures.1 goes in
          absurd (cc (is, c.if-not-goes_by_step.true)),
    )

pub loop-a-preserved : goal.loop-a-preserved
loop-a-preserved c =
    let s = c.greatest_steps-steps.result.rise in
    let t = c.greatest_steps-steps.result.fall in
    below_more (λ b. (rise c.args.shape.now b ≡ s) ⊎ (rise c.args.shape.now b ≡ neg_ℤ t)) c.loop-a.a
    c.loop-a.invariant
    (c.goes_by_step.ensures.0 c.if-not-goes_by_step.false)

pub returns : goal.returns
returns c =
    let s = c.greatest_steps-steps.result.rise in
    let t = c.greatest_steps-steps.result.fall in
    let apart : s ≢ neg_ℤ t = λ e. omega (arith, ints) in (
      λ yes.
          are_two_slopes c.args.shape.now s t c.order-a-end.ensures.limits
          (c.is_continuous.ensures.0 c.if-not-is_continuous.false)
          c.greatest_steps-steps.ensures apart (λ a low. c.loop-a.invariant a (omega arith)),
      λ two. refl,
    )
