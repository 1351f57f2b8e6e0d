use Rattle.gj_frac.specs.SameParts.{same_value_same}
use Rattle.gj_frac.proofs.laws.equal_values_are_one.Goals as goal

pub returns : goal.returns
returns c = same_value_same
