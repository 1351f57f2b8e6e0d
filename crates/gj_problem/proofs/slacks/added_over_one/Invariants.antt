use Rattle.std.proofs.Common.{List}
use Rattle.gj_frac.specs.declared.Frac.{Frac}
use Rattle.gj_problem.specs.Aggregates.{weighted}
use Rattle.gj_problem.specs.Combinations.{HasParts}
use Rattle.gj_problem.proofs.Runs.{IsReached}
use Rattle.gj_problem.proofs.WeightedRuns.{IsAddedUp}
use Rattle.gj_problem.proofs.slacks.added_over_one.Given as goal

abbrev pub invariant-loop-run : goal.invariant-loop-run
invariant-loop-run l = (cs : List Frac) × (r : Frac) × HasParts l.made.sum cs r
    × IsReached (λ front. IsAddedUp l.problem cs r l.made.slacks.items (weighted front l.constraints))
    l.multipliers l.runs l.run-index l.place
