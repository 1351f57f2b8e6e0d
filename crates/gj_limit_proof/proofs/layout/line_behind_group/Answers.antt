use Rattle.std.proofs.Common.{length, ap, arith}
use Rattle.std.proofs.lemmas.Result.{IfOk-weaker}
use Rattle.gj_proof.proofs.LineCounts.{length-reductions}
use Rattle.gj_limit_proof.proofs.LimitLineCounts.{length-limit_group}
use Rattle.gj_limit_proof.proofs.layout.line_behind_group.Goals as goal

pub returns-clause-number : goal.returns-clause-number
returns-clause-number c =
    let row = c.args.group.now in
    let slice = ap length c.as_slice.ensures in
    let steps = length-reductions 0 0 c.as_slice.result.now in
    let above = c.lines_with_steps.ensures in
    let pivot = c.in_ok-pivot.ensures in
    let all = length-limit_group 0 row in
    IfOk-weaker c.line_below-2.result _ _ (λ n is. omega arith) c.line_below-2.ensures.number
