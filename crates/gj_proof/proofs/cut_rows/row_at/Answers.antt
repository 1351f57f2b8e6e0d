use Rattle.std.proofs.Common.{refl}
use Rattle.std.proofs.lemmas.Result.{err_from_is_err_and}
use Rattle.gj_proof.specs.declared.cut_rows.RowKind.TheVariants.{WithCut, Skipped}
use Rattle.gj_proof.proofs.CutRead.{fault_in_terms, row_read}
use Rattle.gj_proof.proofs.cut_rows.row_at.Goals as goal

pub returns-in_err-terms-in-WithCut : goal.returns-in_err-terms-in-WithCut
returns-in_err-terms-in-WithCut c =
    let p = err_from_is_err_and c.from_residual-in_err-terms-in-WithCut.result
    c.from_residual-in_err-terms-in-WithCut.ensures.1 in
    rw (p.1, p.2)
    (fault_in_terms _ _ c.in_ok-head.head _ c.in_ok-head.ensures c.in-WithCut.is
    c.in_err-terms-in-WithCut.ensures)

pub returns-in_ok-terms-in-WithCut : goal.returns-in_ok-terms-in-WithCut
returns-in_ok-terms-in-WithCut c =
    rw c.of.ensures
    (row_read _ _ _ c.in_ok-head.head WithCut _ c.in_ok-head.ensures c.in-WithCut.is
    (c.in_ok-terms-in-WithCut.terms.items, c.in_ok-terms-in-WithCut.ensures, refl))

pub returns-in-Skipped : goal.returns-in-Skipped
returns-in-Skipped c =
    row_read _ _ _ c.in_ok-head.head (Skipped c.in-Skipped.reason) _ c.in_ok-head.ensures
    c.in-Skipped.is (refl, refl)
