use Rattle.gj_real_answers.proofs.RealReplies.{real_run}
use Rattle.gj_real_answers.proofs.runs_are_true_over_reals.Goals as goal

pub returns : goal.returns
returns g c = real_run g.K.Reals.field g.K.Reals.floors
