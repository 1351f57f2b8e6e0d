use Rattle.std.proofs.Common.{below_more}
use Rattle.gj_theory.specs.EarlierTests.{PassesSquare}
use Rattle.gj_minimal.proofs.FailedFaces.{squares_from_diagonal}
use Rattle.gj_minimal.proofs.faces.failed_in_row.Goals as goal

pub returns-then-squares_pass-clause-none : goal.returns-then-squares_pass-clause-none
returns-then-squares_pass-clause-none g c =
    squares_from_diagonal c.args.shape.now c.args.a c.requires.vertices c.requires.within
    c.requires.rows
    (c.squares_pass.ensures c.if-squares_pass.true)

pub failed_in_square-requires-clause-squares : goal.failed_in_square-requires-clause-squares
failed_in_square-requires-clause-squares g c = record {
  rows = λ i j i_below j_below. c.requires.rows i i_below j j_below;
  row = c.loop-b.invariant;
}

pub loop-b-preserved : goal.loop-b-preserved
loop-b-preserved g c =
    below_more (PassesSquare c.args.shape.now c.args.a) c.loop-b.b c.loop-b.invariant
    c.in_default.ensures.none
