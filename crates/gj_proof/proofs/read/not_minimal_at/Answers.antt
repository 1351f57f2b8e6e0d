use Rattle.std.proofs.Common.{refl}
use Rattle.std.proofs.lemmas.Result.{err_from_is_err_and}
use Rattle.gj_proof.proofs.ReadFaults.{fault_in_violation}
use Rattle.gj_proof.proofs.read.not_minimal_at.Goals as goal

pub returns-in_err-violation : goal.returns-in_err-violation
returns-in_err-violation c =
    let p = err_from_is_err_and c.from_residual-in_err-violation.result
    c.from_residual-in_err-violation.ensures.1 in
    rw (p.1, p.2)
    (fault_in_violation _ _ _ _ c.in_ok-shape.ensures c.in_err-violation.ensures)

pub returns : goal.returns
returns c = (
  c.in_ok-shape.shape,
  c.in_ok-shape.rest.now,
  c.in_ok-shape.ensures,
  (c.in_ok-violation.violation, c.in_ok-violation.ensures, refl),
)
