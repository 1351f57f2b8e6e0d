use Rattle.std.proofs.Common.{length}
use Rattle.gj_forms.proofs.LoopRead.{LeadsOn}
use Rattle.gj_function_text.specs.BreaksText.{next_break}
use Rattle.gj_function_text.proofs.breaks.more_breaks_at.Given as goal

abbrev pub invariant-loop-breaks : goal.invariant-loop-breaks
invariant-loop-breaks l = LeadsOn next_break l.fn.first l.text l.breaks l.rest

abbrev pub decreases-loop-breaks : goal.decreases-loop-breaks
decreases-loop-breaks l = length l.rest
