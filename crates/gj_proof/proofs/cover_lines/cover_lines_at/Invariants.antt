use Rattle.gj_proof.specs.ProofGrammar.{cover_form, form_part}
use Rattle.gj_forms.proofs.ListRead.{LeavesTimes}
use Rattle.gj_proof.proofs.cover_lines.cover_lines_at.Given as goal

abbrev pub invariant-loop : goal.invariant-loop
invariant-loop l = LeavesTimes (form_part (cover_form l.order)) l.order l.counter l.text l.rest
    l.lines.items
