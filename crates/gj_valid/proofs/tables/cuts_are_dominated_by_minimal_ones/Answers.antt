use Rattle.gj_valid.proofs.LowerCuts.{lower_cuts}
use Rattle.gj_valid.proofs.tables.cuts_are_dominated_by_minimal_ones.Goals as goal

pub returns : goal.returns
returns c = lower_cuts
