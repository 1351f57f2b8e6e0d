use Rattle.std.proofs.Common.{◌≡◌, ◌≤◌, length}
use Rattle.gj_forms.proofs.LoopRead.{LeadsOn}
use Rattle.gj_problem_text.specs.ProblemText.{no_task, next_line}
use Rattle.gj_problem_text.specs.Tasks.{most_columns}
use Rattle.gj_problem_text.proofs.read.lines_at.Given as goal

abbrev pub invariant-loop-places : goal.invariant-loop-places
invariant-loop-places l = record {
  few : length l.task.names ≤ most_columns;
  places : l.places ≡ l.task.names;
  leads : LeadsOn next_line no_task l.text l.task l.rest;
}

abbrev pub decreases-loop-places : goal.decreases-loop-places
decreases-loop-places l = length l.rest
