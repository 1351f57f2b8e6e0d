use Rattle.gj_theory.proofs.IntervalLemma.{step_on_lower, step_on_upper}
use Rattle.gj_theory.proofs.constant_steps.interval_lemma.Goals as goal

pub returns-clause-lower : goal.returns-clause-lower
returns-clause-lower c = step_on_lower

pub returns-clause-upper : goal.returns-clause-upper
returns-clause-upper c = step_on_upper
