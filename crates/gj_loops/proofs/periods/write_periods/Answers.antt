use Rattle.std.proofs.Common.{◌≡◌, length, subst, ◌∙◌, arith}
use Rattle.gj_loops.proofs.LaidNumbers.{AreLaid, one_laid, all_laid, read_number}
use Rattle.gj_loops.proofs.periods.write_periods.Goals as goal

pub of-lane-requires-clause-low : goal.of-lane-requires-clause-low
of-lane-requires-clause-low g c =
    (read_number g.met.L.Lane.is_narrow c.args.numbers.now c.loop-i.i c.loop-i-test.true
    c.requires.range).0.0

pub of-lane-requires-clause-high : goal.of-lane-requires-clause-high
of-lane-requires-clause-high g c =
    (read_number g.met.L.Lane.is_narrow c.args.numbers.now c.loop-i.i c.loop-i-test.true
    c.requires.range).0.1

pub loop-i-preserved : goal.loop-i-preserved
loop-i-preserved g c =
    let is = (read_number g.met.L.Lane.is_narrow c.args.numbers.now c.loop-i.i c.loop-i-test.true
    c.requires.range).1 in
    one_laid g.L.Lane.number c.loop-i.lanes c.args.numbers.now c.loop-i.i _ c.loop-i.invariant
    c.loop-i-test.true (omega arith)
    (c.of-lane.ensures ∙ is)

pub of-requires-clause-low : goal.of-requires-clause-low
of-requires-clause-low g c =
    (read_number g.met.L.Lane.is_narrow c.args.numbers.now 0 c.requires.some c.requires.range).0.0

pub of-requires-clause-high : goal.of-requires-clause-high
of-requires-clause-high g c =
    (read_number g.met.L.Lane.is_narrow c.args.numbers.now 0 c.requires.some c.requires.range).0.1

pub returns-clause-periods : goal.returns-clause-periods
returns-clause-periods g c =
    let all : c.loop-i.i ≡ length c.args.numbers.now = omega arith in
    let is = (read_number g.met.L.Lane.is_narrow c.args.numbers.now 0 c.requires.some
    c.requires.range).1 in
    all_laid g.L.Lane.number g.L.Lane.least g.L.Lane.bound c.loop-i.lanes c.args.numbers.now _
    (subst (AreLaid g.L.Lane.number c.loop-i.lanes c.args.numbers.now) all c.loop-i.invariant)
    c.requires.some (omega arith)
    c.requires.range (c.of.ensures ∙ is)
