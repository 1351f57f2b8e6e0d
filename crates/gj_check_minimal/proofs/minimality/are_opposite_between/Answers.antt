use Rattle.std.proofs.Common.{◌≡◌, ◌-◌, ◌≤◌, ◌+ℤ◌, w64, below_more, refl, ◌∙◌, arith}
use Rattle.std.proofs.lemmas.Int.{to_z-of_z}
use Rattle.gj_shape.specs.FunctionData.{at}
use Rattle.gj_check_minimal.proofs.TestsInTurn.{in_other_words, one_fails}
use Rattle.gj_check_minimal.proofs.NumeratorTests.{number_below, same_sum}
use Rattle.gj_check_minimal.proofs.minimality.are_opposite_between.Goals as goal

pub adds_up-requires : goal.adds_up-requires
adds_up-requires c =
    let i = c.loop-i.i in
    record {
      first = (number_below c.args.numbers.now i (omega arith) c.requires.numbers).1;
      second = (number_below c.args.others.now (c.args.sum - i) (omega arith) c.requires.others).1;
    }

pub returns-then-not-adds_up : goal.returns-then-not-adds_up
returns-then-not-adds_up c =
    let i = c.loop-i.i in
    let x = number_below c.args.numbers.now i (omega arith) c.requires.numbers in
    let y = number_below c.args.others.now (c.args.sum - i) (omega arith) c.requires.others in
    let total = to_z-of_z w64 c.args.total c.ranges.total in
    one_fails _ _ _ c.if-not-adds_up.true
    (in_other_words _ _ _ c.adds_up.ensures (same_sum _ _ _ _ _ _ x.0 y.0 total))
    (λ all. all i (omega arith) (omega arith))

pub loop-i-preserved : goal.loop-i-preserved
loop-i-preserved c =
    let i = c.loop-i.i in
    let x = number_below c.args.numbers.now i (omega arith) c.requires.numbers in
    let y = number_below c.args.others.now (c.args.sum - i) (omega arith) c.requires.others in
    below_more (λ k. c.args.from ≤ k →
    at c.args.numbers.now k +ℤ at c.args.others.now (c.args.sum - k) ≡ _) i c.loop-i.invariant
    (λ _. (same_sum _ _ _ _ _ _ x.0 y.0 refl).0 (c.adds_up.ensures.0 c.if-not-adds_up.false))

pub returns : goal.returns
returns c = (
  λ _ i below from. c.loop-i.invariant i (omega arith) from
      ∙ to_z-of_z w64 c.args.total c.ranges.total,
  λ _. refl,
)
