use Rattle.std.proofs.Common.{[], length}
use Rattle.gj_forms.proofs.LoopRead.{LeadsOn}
use Rattle.gj_forms.specs.ListParts.{next_while}
use Rattle.gj_proof.specs.ProofGrammar.{form_part}
use Rattle.gj_proof.proofs.ExtremeTexts.{BeginsStep, reduce_form}
use Rattle.gj_proof.proofs.pivot_rows.steps_at.Given as goal

abbrev pub invariant-loop-rest : goal.invariant-loop-rest
invariant-loop-rest l = LeadsOn (next_while BeginsStep (form_part (reduce_form l.limit)))
    [] l.text l.columns.items l.rest

abbrev pub decreases-loop-rest : goal.decreases-loop-rest
decreases-loop-rest l = length l.rest
