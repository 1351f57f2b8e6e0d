use Rattle.std.proofs.Common.{[], length}
use Rattle.gj_forms.proofs.LoopRead.{LeadsOn}
use Rattle.gj_forms.specs.ListParts.{next_until}
use Rattle.gj_proof.specs.ProofGrammar.{group_part}
use Rattle.gj_proof.proofs.CutTexts.{BeginsEnd}
use Rattle.gj_proof.proofs.pivot_rows.groups_at.Given as goal

abbrev pub invariant-loop-alloc : goal.invariant-loop-alloc
invariant-loop-alloc l = LeadsOn (next_until BeginsEnd (group_part l.order))
    [] l.text l.rows.items l.rest

abbrev pub decreases-loop-alloc : goal.decreases-loop-alloc
decreases-loop-alloc l = length l.rest
