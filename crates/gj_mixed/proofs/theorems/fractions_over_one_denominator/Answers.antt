use Rattle.gj_mixed.proofs.Amounts.{amounts_over_one}
use Rattle.gj_mixed.proofs.theorems.fractions_over_one_denominator.Goals as goal

pub returns : goal.returns
returns c = amounts_over_one
