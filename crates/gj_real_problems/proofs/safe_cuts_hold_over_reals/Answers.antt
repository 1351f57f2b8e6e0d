use Rattle.gj_safe_cut.proofs.HeldCuts.{holds_by_gmic, holds_by_rule}
use Rattle.gj_real_problems.proofs.Cuts.{cut_transferred, rounded_transferred}
use Rattle.gj_real_problems.proofs.safe_cuts_hold_over_reals.Goals as goal

pub returns-clause-by_gmic : goal.returns-clause-by_gmic
returns-clause-by_gmic g c = λ p ms ups cut count h.
    cut_transferred g.K.Reals.field g.K.Reals.floors p cut (holds_by_gmic p ms ups cut count h)

pub returns-clause-by_rule : goal.returns-clause-by_rule
returns-clause-by_rule g c = λ kind up down p ms ups cut count bounds minimal slopes h.
    cut_transferred g.K.Reals.field g.K.Reals.floors p cut
    (holds_by_rule kind up down p ms ups cut count (λ q is. bounds) minimal slopes h)

pub returns-clause-held : goal.returns-clause-held
returns-clause-held g c = cut_transferred g.K.Reals.field g.K.Reals.floors

pub returns-clause-rounded : goal.returns-clause-rounded
returns-clause-rounded g c = rounded_transferred g.K.Reals.field g.K.Reals.floors
