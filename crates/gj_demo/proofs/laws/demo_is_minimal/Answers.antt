use Rattle.gj_demo.proofs.Values.{demo_minimal}
use Rattle.gj_demo.proofs.laws.demo_is_minimal.Goals as goal

pub returns-clause-minimal : goal.returns-clause-minimal
returns-clause-minimal c = demo_minimal
