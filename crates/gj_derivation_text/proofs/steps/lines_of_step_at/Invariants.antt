use Rattle.std.proofs.Common.{◌≤◌, length}
use Rattle.gj_forms.proofs.LoopRead.{LeadsOn}
use Rattle.gj_derivation_text.specs.OpenSteps.{begun, AreUsedBy, next_of_step}
use Rattle.gj_derivation_text.proofs.steps.lines_of_step_at.Given as goal

abbrev pub invariant-loop-used : goal.invariant-loop-used
invariant-loop-used l = record {
  used : AreUsedBy l.used l.step;
  shorter : length l.rest ≤ length l.text;
  leads : LeadsOn (next_of_step l.names) (begun l.fn.rule) l.text l.step l.rest;
}

abbrev pub decreases-loop-used : goal.decreases-loop-used
decreases-loop-used l = length l.rest
