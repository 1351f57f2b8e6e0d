use Rattle.gj_fill.proofs.FillIns.{filled_subadditive}
use Rattle.gj_fill.proofs.laws.fill_in_is_subadditive.Goals as goal

pub returns : goal.returns
returns c = filled_subadditive
