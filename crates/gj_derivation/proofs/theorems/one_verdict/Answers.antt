use Rattle.gj_derivation.proofs.OneVerdict.{one_verdict}
use Rattle.gj_derivation.proofs.theorems.one_verdict.Goals as goal

pub returns : goal.returns
returns c = one_verdict
