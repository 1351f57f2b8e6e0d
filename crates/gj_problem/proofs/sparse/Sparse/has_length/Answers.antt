use Rattle.std.proofs.Common.{◌≡◌, ◌+◌, suc, List, length, drop, subst, arith}
use Rattle.gj_problem.specs.declared.sparse.Run.{Run}
use Rattle.gj_problem.specs.Sparse.{spread}
use Rattle.gj_problem.proofs.Runs.{counted_next}
use Rattle.gj_problem.proofs.sparse.Sparse.has_length.Goals as goal

pub loop-run-preserved : goal.loop-run-preserved
loop-run-preserved c =
    let (front, all, counted) = c.loop-run.invariant in
    let behind = c.self.inside.behind in
    let i = c.loop-run.run-index in
    let r = c.run-item.result in
    let next = subst (λ (rs : List Run). length (spread (drop i rs) behind)
    ≡ r.zeros + suc (length (spread (drop (i + 1) rs) behind))) c.as_slice-run-items.ensures.value
    (counted_next c.as_slice-run-items.result.now behind i r c.loop-run-test.true c.run-item.is) in
    let above = c.if-left-run.false in (
      front + r.zeros + 1,
      omega (arith, all, next),
      omega (arith, counted, above),
    )
