use Rattle.gj_transform.proofs.RestrictionTables.{restriction_minimal}
use Rattle.gj_transform.proofs.verdicts.restriction_is_minimal.Goals as goal

pub returns : goal.returns
returns c = restriction_minimal
