use Rattle.gj_fill.proofs.FillIns.{rises_to, falls_from}
use Rattle.gj_fill.proofs.laws.fill_in_has_two_slopes.Goals as goal

pub returns-clause-rises : goal.returns-clause-rises
returns-clause-rises c = rises_to

pub returns-clause-falls : goal.returns-clause-falls
returns-clause-falls c = falls_from
