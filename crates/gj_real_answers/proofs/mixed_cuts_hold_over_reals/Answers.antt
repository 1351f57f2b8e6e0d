use Rattle.gj_real_answers.proofs.MixedCuts.{cut_by_function, cut_by_gmic}
use Rattle.gj_real_answers.proofs.mixed_cuts_hold_over_reals.Goals as goal

pub returns-clause-by_function : goal.returns-clause-by_function
returns-clause-by_function g c = cut_by_function g.K.Reals.field g.K.Reals.floors

pub returns-clause-by_gmic : goal.returns-clause-by_gmic
returns-clause-by_gmic g c = cut_by_gmic g.K.Reals.field g.K.Reals.floors
