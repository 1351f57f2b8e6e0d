use Rattle.std.proofs.Common.{below_more, rules}
use Rattle.gj_theory.specs.EarlierTests.{PassesVertex}
use Rattle.gj_minimal.proofs.vertices.first_negative.Goals as goal

pub loop-b-preserved : goal.loop-b-preserved
loop-b-preserved c =
    let here : PassesVertex c.args.shape.now c.args.a c.loop-b.b = search rules in
    below_more (PassesVertex c.args.shape.now c.args.a) c.loop-b.b c.loop-b.invariant here
