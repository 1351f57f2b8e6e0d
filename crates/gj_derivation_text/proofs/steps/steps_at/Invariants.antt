use Rattle.std.proofs.Common.{◌≡◌, ◌≤◌, length}
use Rattle.gj_forms.proofs.LoopRead.{LeadsOn}
use Rattle.gj_problem_text.specs.Tasks.{most_columns}
use Rattle.gj_derivation_text.specs.DerivationText.{next_step, names_of}
use Rattle.gj_derivation_text.proofs.steps.steps_at.Given as goal

abbrev pub invariant-loop-alloc : goal.invariant-loop-alloc
invariant-loop-alloc l = record {
  few : length l.drafts.task.names ≤ most_columns;
  names : l.names ≡ names_of l.fn.names.drafts l.drafts;
  leads : LeadsOn (next_step l.fn.names.drafts l.has_function) l.fn.drafts l.text l.drafts l.rest;
}

abbrev pub decreases-loop-alloc : goal.decreases-loop-alloc
decreases-loop-alloc l = length l.rest
