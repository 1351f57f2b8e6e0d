use Rattle.gj_extreme.proofs.FewComponents.{few_components, few_components_plain}
use Rattle.gj_extreme.proofs.laws.few_components_are_not_wide.Goals as goal

pub returns-clause-not_wide : goal.returns-clause-not_wide
returns-clause-not_wide c = few_components

pub returns-clause-plain : goal.returns-clause-plain
returns-clause-plain c = few_components_plain
