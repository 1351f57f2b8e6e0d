use Rattle.std.proofs.Common.{[], length}
use Rattle.gj_forms.proofs.LoopRead.{LeadsOn}
use Rattle.gj_forms.specs.ListParts.{next_while}
use Rattle.gj_proof.specs.ProofGrammar.{term_form, form_part}
use Rattle.gj_proof.proofs.CutTexts.{BeginsTerm}
use Rattle.gj_proof.proofs.cut_rows.terms_at.Given as goal

abbrev pub invariant-loop-terms : goal.invariant-loop-terms
invariant-loop-terms l = LeadsOn (next_while BeginsTerm (form_part term_form))
    [] l.text l.terms.items l.rest

abbrev pub decreases-loop-terms : goal.decreases-loop-terms
decreases-loop-terms l = length l.rest
