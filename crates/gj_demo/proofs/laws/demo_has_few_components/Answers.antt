use Rattle.gj_demo.proofs.FewComponents.{few_components}
use Rattle.gj_demo.proofs.laws.demo_has_few_components.Goals as goal

pub returns : goal.returns
returns c = few_components
