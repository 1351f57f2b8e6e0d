use Rattle.gj_safe_cut.proofs.HeldCuts.{holds_by_gmic, holds_by_rule}
use Rattle.gj_safe_cut.proofs.theorems.safe_cut_holds.Goals as goal

pub returns-clause-by_gmic : goal.returns-clause-by_gmic
returns-clause-by_gmic c = holds_by_gmic

pub returns-clause-by_rule : goal.returns-clause-by_rule
returns-clause-by_rule c = λ kind up down p ms ups cut count bounds minimal slopes h.
    holds_by_rule kind up down p ms ups cut count (λ q is. bounds) minimal slopes h
