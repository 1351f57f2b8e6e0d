use Rattle.std.proofs.Common.{arith}
use Rattle.std.proofs.lemmas.Result.{err_from_is_err_and}
use Rattle.gj_function_lines.proofs.PointsRead.{goes_on_at_first, goes_on, faults_on, ends_here}
use Rattle.gj_function_lines.proofs.points.points_at.Goals as goal

pub loop-init : goal.loop-init
loop-init c = rw c.in_ok-points.ensures (goes_on_at_first _ _ _ _ (omega arith))

pub returns-in_err-rest : goal.returns-in_err-rest
returns-in_err-rest c =
    let p = err_from_is_err_and c.from_residual-in_err-rest.result
    c.from_residual-in_err-rest.ensures.1 in
    rw (p.1, p.2) (faults_on _ _ _ _ _ _ _ c.loop-test.true c.loop.invariant
    c.in_err-rest.ensures.fault)

pub loop-preserved : goal.loop-preserved
loop-preserved c = goes_on _ _ _ _ _ _ _ _ c.loop-test.true c.loop.invariant
    c.in_ok-rest.ensures.found

pub returns : goal.returns
returns c = ends_here _ _ _ _ _ _ (omega arith) c.loop.invariant
