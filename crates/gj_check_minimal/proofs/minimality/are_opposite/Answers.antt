use Rattle.std.proofs.Common.{◌↔◌, ◌+◌, IsTrue, length, w64, subst}
use Rattle.std.proofs.lemmas.Int.{to_z-of_z}
use Rattle.gj_check_minimal.specs.Numerators.{AreOppositeBetween}
use Rattle.gj_check_minimal.proofs.NumeratorTests.{opposite_in_parts}
use Rattle.gj_check_minimal.proofs.TestsInTurn.{one_fails}
use Rattle.gj_check_minimal.proofs.minimality.are_opposite.Goals as goal

pub returns-then-not-are_opposite_between : goal.returns-then-not-are_opposite_between
returns-then-not-are_opposite_between c =
    let xs = c.args.numbers.now in
    let ys = c.args.others.now in
    let place = c.args.place in
    let total = to_z-of_z w64 c.args.total c.ranges.total in
    let upto = subst (λ t. IsTrue c.are_opposite_between.result
    ↔ AreOppositeBetween xs ys 0 (place + 1) place t) total
    c.are_opposite_between.ensures in
    one_fails _ _ _ c.if-not-are_opposite_between.true upto
    (λ all. ((opposite_in_parts xs ys place c.args.total c.requires.count c.requires.place).1
    all).0)

pub returns : goal.returns
returns c =
    let xs = c.args.numbers.now in
    let ys = c.args.others.now in
    let place = c.args.place in
    let total = to_z-of_z w64 c.args.total c.ranges.total in
    let parts = opposite_in_parts xs ys place c.args.total c.requires.count c.requires.place in
    let upto = subst (λ t. IsTrue c.are_opposite_between.result
    ↔ AreOppositeBetween xs ys 0 (place + 1) place t) total
    c.are_opposite_between.ensures in
    let behind = subst (λ t. IsTrue c.are_opposite_between-2.result
    ↔ AreOppositeBetween xs ys (place + 1) (length xs) (place + length xs) t) total
    c.are_opposite_between-2.ensures in (
      λ t. parts.0 (upto.0 c.if-not-are_opposite_between.false, behind.0 t),
      λ all. behind.1 (parts.1 all).1,
    )
