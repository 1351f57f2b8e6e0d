use Rattle.std.proofs.Common.{◌≡◌, ℕ, ◌+◌, List, length, ap, arith}
use Rattle.std.specs.Prelude.{Result, Ok, Err, IfOk}
use Rattle.std.specs.declared.alloc.AllocError.{AllocError}
use Rattle.gj_proof.specs.ProofText.{reduction_lines}
use Rattle.gj_proof.proofs.LineCounts.{length-reductions}
use Rattle.gj_limit_check_groups.proofs.groups.line_behind.Goals as goal

-- one line below those of the steps
behind : (r : Result ℕ AllocError) (above steps pivot : ℕ) (columns given : List ℕ) →
    given ≡ columns →
    steps ≡ 1 + length (reduction_lines 0 0 given) → pivot ≡ above + steps →
    IfOk r (λ n. n ≡ pivot + 1) →
    IfOk r (λ n. n ≡ above + (length columns + 2))
behind (Ok n) above steps pivot columns given same steps_is pivot_is h =
    let lines = length-reductions 0 0 given in
    let long = ap length same in
    omega arith
behind (Err e) above steps pivot columns given same steps_is pivot_is h = tt

pub returns : goal.returns
returns c =
    behind c.line_below-2.result c.args.above c.lines_with_steps.result c.in_ok-pivot.pivot
    c.args.group.now.reduce
    c.as_slice.result.now c.as_slice.ensures c.lines_with_steps.ensures c.in_ok-pivot.ensures.number
    c.line_below-2.ensures.number
