use Rattle.gj_real_answers.proofs.RealReplies.{problem_cuts}
use Rattle.gj_real_answers.proofs.problem_cuts_hold_over_reals.Goals as goal

pub returns : goal.returns
returns g c = problem_cuts g.K.Reals.field g.K.Reals.floors
