use Rattle.gj_transform.proofs.AtFractions.{mirror_values}
use Rattle.gj_transform.proofs.values.mirror_has_values.Goals as goal

pub returns : goal.returns
returns c = mirror_values
