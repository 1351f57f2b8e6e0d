use Rattle.std.proofs.Common.{◌≤ℤ◌, pos, below_more, arith}
use Rattle.std.proofs.lemmas.Int.{ints}
use Rattle.gj_shape.specs.FunctionData.{at}
use Rattle.gj_check_minimal.proofs.NumeratorTests.{number_below}
use Rattle.gj_check_minimal.proofs.minimality.has_no_negative.Goals as goal

pub returns-then-numbers-i-lt0 : goal.returns-then-numbers-i-lt0
returns-then-numbers-i-lt0 c =
    let here = (number_below _ c.loop-i.i c.loop-i-test.true c.requires).0 in
    let below = c.if-numbers-i-lt0.true in (
      λ none. absurd cc,
      λ all. absurd (let low = all c.loop-i.i c.loop-i-test.true in
          omega (arith, ints)),
    )

pub loop-i-preserved : goal.loop-i-preserved
loop-i-preserved c =
    let here = (number_below _ c.loop-i.i c.loop-i-test.true c.requires).0 in
    let not_below = c.if-numbers-i-lt0.false in
    below_more (λ k. pos 0 ≤ℤ at c.args.numbers.now k) c.loop-i.i c.loop-i.invariant
    (omega (arith, ints))
