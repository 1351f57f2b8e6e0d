use Rattle.std.proofs.Common.{All, take}
use Rattle.gj_problem.specs.Problems.{IsWholeColumn}
use Rattle.gj_problem.proofs.slacks.have_whole_columns.Given as goal

abbrev pub invariant-loop-entry : goal.invariant-loop-entry
invariant-loop-entry l = All (λ e. IsWholeColumn l.problem e.column) (take l.entry-index l.entries)
