use Rattle.gj_demo.proofs.Averages.{demo_average}
use Rattle.gj_demo.proofs.laws.demo_is_average.Goals as goal

pub returns : goal.returns
returns c = demo_average
