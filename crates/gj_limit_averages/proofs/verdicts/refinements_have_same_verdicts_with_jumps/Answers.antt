use Rattle.gj_limit_averages.proofs.SameVerdicts.{refined_extreme}
use Rattle.gj_limit_averages.proofs.verdicts.refinements_have_same_verdicts_with_jumps.Goals as goal

pub returns : goal.returns
returns c = refined_extreme
