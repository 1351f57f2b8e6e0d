use Rattle.std.proofs.Common.{◌≡◌, ◌≤◌, length}
use Rattle.gj_forms.proofs.LoopRead.{LeadsOn}
use Rattle.gj_problem_text.specs.Tasks.{most_columns}
use Rattle.gj_derivation_text.specs.DerivationText.{no_drafts, next_of_problem, names_of}
use Rattle.gj_derivation_text.proofs.problem.problem_at.Given as goal

abbrev pub invariant-loop-behind : goal.invariant-loop-behind
invariant-loop-behind l = record {
  few : length l.drafts.task.names ≤ most_columns;
  names : l.names ≡ names_of l.fn.names.drafts l.drafts;
  leads : LeadsOn (next_of_problem l.fn.names.drafts) no_drafts l.text l.drafts l.rest;
}

abbrev pub decreases-loop-behind : goal.decreases-loop-behind
decreases-loop-behind l = length l.rest
