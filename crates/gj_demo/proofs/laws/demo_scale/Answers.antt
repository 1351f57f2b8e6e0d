use Rattle.std.proofs.Common.{arith}
use Rattle.gj_demo.proofs.Values.{demo_scale_small}
use Rattle.gj_demo.proofs.laws.demo_scale.Goals as goal

pub returns-clause-order : goal.returns-clause-order
returns-clause-order c = demo_scale_small

pub returns-clause-bound : goal.returns-clause-bound
returns-clause-bound c = λ n f h bounds.
    let small = demo_scale_small n f h bounds in
    let order = h.order in
    let high = bounds.order_high in
    omega arith
