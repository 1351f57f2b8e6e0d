use Rattle.gj_limit_averages.proofs.SameVerdicts.{mirrored_extreme}
use Rattle.gj_limit_averages.proofs.verdicts.mirrors_have_same_verdicts_with_jumps.Goals as goal

pub returns : goal.returns
returns c = mirrored_extreme
