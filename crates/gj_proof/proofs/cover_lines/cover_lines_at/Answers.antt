use Rattle.std.proofs.Common.{arith}
use Rattle.std.proofs.lemmas.Result.{err_from_is_err_and}
use Rattle.gj_proof.specs.ProofGrammar.{cover_form, form_part}
use Rattle.gj_forms.proofs.ListRead.{times_on, times_at_fault}
use Rattle.gj_proof.proofs.cover_lines.cover_lines_at.Goals as goal

pub loop-preserved : goal.loop-preserved
loop-preserved c =
    times_on (form_part (cover_form c.args.order)) c.args.order c.loop.counter _ _ _
    c.loop.invariant (omega arith) _ _ c.in_ok-line.line
    c.in_ok-line.ensures c.in_ok-push.ensures.items

pub returns-in_err-line : goal.returns-in_err-line
returns-in_err-line c =
    let p = err_from_is_err_and c.from_residual.result c.from_residual.ensures.1 in
    rw (p.1, p.2)
    (times_at_fault (form_part (cover_form c.args.order)) c.args.order c.loop.counter _ _ _
    c.loop.invariant (omega arith) _
    c.in_err-line.ensures)
