use Rattle.std.proofs.Common.{arith}
use Rattle.gj_proof.proofs.LineCounts.{length-reductions}
use Rattle.gj_proof.proofs.layout.lines_with_steps.Goals as goal

pub returns : goal.returns
returns c = let steps = length-reductions 0 0 c.args.steps.now in omega arith
