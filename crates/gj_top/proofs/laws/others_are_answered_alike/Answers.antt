use Rattle.gj_top.proofs.ByLimits.{others_alike}
use Rattle.gj_top.proofs.laws.others_are_answered_alike.Goals as goal

pub returns : goal.returns
returns c = others_alike
