use Rattle.gj_problem.specs.Aggregates.{weighted}
use Rattle.gj_problem.proofs.Runs.{IsReached}
use Rattle.gj_problem.proofs.WeightedRuns.{IsAddedUp}
use Rattle.gj_problem.proofs.slacks.added_one_by_one.Given as goal

abbrev pub invariant-loop-run : goal.invariant-loop-run
invariant-loop-run l =
    IsReached (λ front. IsAddedUp l.problem l.made.sum.coefficients.items l.made.sum.right
    l.made.slacks.items (weighted front l.constraints)) l.multipliers l.runs l.run-index l.place
