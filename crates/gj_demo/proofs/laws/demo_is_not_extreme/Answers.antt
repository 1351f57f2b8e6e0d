use Rattle.gj_demo.proofs.Values.{demo_not_extreme}
use Rattle.gj_demo.proofs.laws.demo_is_not_extreme.Goals as goal

pub returns : goal.returns
returns c = demo_not_extreme
