use Rattle.std.proofs.Common.{arith}
use Rattle.gj_proof.proofs.LineCounts.{length-covered}
use Rattle.gj_proof.proofs.layout.line_behind_covers.Goals as goal

pub returns : goal.returns
returns c =
    let covered = length-covered 0 c.args.lines.now in
    let behind = c.line_behind_function.ensures.value in
    omega arith
