use Rattle.gj_theory.proofs.SlacksAndSizes.{least_slack, greatest_size}
use Rattle.gj_theory.proofs.perturbations.halves_are_determined.Goals as goal

pub returns-clause-some_slack : goal.returns-clause-some_slack
returns-clause-some_slack c = least_slack

pub returns-clause-some_size : goal.returns-clause-some_size
returns-clause-some_size c = greatest_size
