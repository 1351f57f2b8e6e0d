use Rattle.gj_values.proofs.OneValue.{one_part}
use Rattle.gj_values.proofs.one_fractional_part.Goals as goal

pub returns : goal.returns
returns c = one_part
