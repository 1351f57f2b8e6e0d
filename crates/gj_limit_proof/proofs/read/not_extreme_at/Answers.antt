use Rattle.std.proofs.Common.{refl}
use Rattle.std.proofs.lemmas.Result.{err_from_is_err_and}
use Rattle.gj_limit_proof.proofs.LimitRead.{fault_in_halves}
use Rattle.gj_limit_proof.proofs.read.not_extreme_at.Goals as goal

pub returns-in_err-halves : goal.returns-in_err-halves
returns-in_err-halves c =
    let p = err_from_is_err_and c.from_residual-in_err-halves.result
    c.from_residual-in_err-halves.ensures.1 in
    rw (p.1, p.2)
    (fault_in_halves _ _ _ _ c.in_ok-shape.ensures c.in_err-halves.ensures)

pub returns : goal.returns
returns c = (
  c.in_ok-shape.shape,
  c.in_ok-shape.rest.now,
  c.in_ok-shape.ensures,
  (c.in_ok-halves.halves, c.in_ok-halves.ensures, refl),
)
