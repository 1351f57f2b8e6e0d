use Rattle.gj_theory.proofs.AverageDifference.{difference_additive, difference_zero}
use Rattle.gj_theory.proofs.constant_steps.difference_is_additive.Goals as goal

pub returns-clause-additive : goal.returns-clause-additive
returns-clause-additive c = difference_additive

pub returns-clause-zero : goal.returns-clause-zero
returns-clause-zero c = difference_zero
