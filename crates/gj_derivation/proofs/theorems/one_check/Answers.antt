use Rattle.gj_derivation.proofs.CheckedDerivations.{one_check}
use Rattle.gj_derivation.proofs.theorems.one_check.Goals as goal

pub returns : goal.returns
returns c = one_check
