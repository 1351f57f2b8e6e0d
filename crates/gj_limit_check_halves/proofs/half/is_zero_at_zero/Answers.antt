use Rattle.std.proofs.Common.{rules, arith}
use Rattle.gj_shape.proofs.AtLemmas.{at_below}
use Rattle.gj_limit_check_halves.proofs.half.is_zero_at_zero.Goals as goal

pub returns : goal.returns
returns c =
    let h = c.requires in
    let len = h.value.length in
    let order = h.order_low in
    rw (at_below c.args.half.value.now 0 (omega arith)) (search rules)
