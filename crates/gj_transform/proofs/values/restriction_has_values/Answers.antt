use Rattle.gj_transform.proofs.AtFractions.{restriction_values}
use Rattle.gj_transform.proofs.values.restriction_has_values.Goals as goal

pub returns : goal.returns
returns c = restriction_values
