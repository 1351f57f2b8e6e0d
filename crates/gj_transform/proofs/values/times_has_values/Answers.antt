use Rattle.gj_transform.proofs.AtFractions.{times_values}
use Rattle.gj_transform.proofs.values.times_has_values.Goals as goal

pub returns : goal.returns
returns c = times_values
