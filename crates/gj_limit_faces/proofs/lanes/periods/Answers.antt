use Rattle.gj_loops.proofs.LaidNumbers.{read_number}
use Rattle.gj_limit_faces.proofs.lanes.periods.Goals as goal

pub of-requires-clause-low : goal.of-requires-clause-low
of-requires-clause-low g c =
    (read_number g.met.L.Lane.is_narrow c.args.numbers.now 0 c.requires.some c.requires.range).0.0

pub of-requires-clause-high : goal.of-requires-clause-high
of-requires-clause-high g c =
    (read_number g.met.L.Lane.is_narrow c.args.numbers.now 0 c.requires.some c.requires.range).0.1
