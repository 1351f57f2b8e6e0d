use Rattle.gj_problem.proofs.Runs.{IsReached}
use Rattle.gj_relaxed.specs.RelaxedSteps.{HasMultipliers, weighted_of}
use Rattle.gj_relaxed.proofs.SideRuns.{AreSidesOf}
use Rattle.gj_relaxed.proofs.sides.relaxed_sides.Given as goal

abbrev pub invariant-loop-run : goal.invariant-loop-run
invariant-loop-run l = record {
  count : HasMultipliers l.made;
  reached : IsReached
      (AreSidesOf l.problem l.grid (weighted_of l.made) l.multipliers l.problem.constraints l.runs)
      l.multipliers l.runs l.run-index l.place;
}
