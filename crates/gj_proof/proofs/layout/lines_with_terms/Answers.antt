use Rattle.std.proofs.Common.{arith}
use Rattle.gj_proof.proofs.LineCounts.{length-terms}
use Rattle.gj_proof.proofs.layout.lines_with_terms.Goals as goal

pub returns : goal.returns
returns c = let terms = length-terms 0 0 c.args.terms.now in omega arith
