use Rattle.std.proofs.Common.{◌≡◌, pos, get_or, sym, ap, ◌∙◌, rules, arith}
use Rattle.gj_shape.specs.FunctionData.{at}
use Rattle.gj_shape.proofs.AtLemmas.{at_below}
use Rattle.gj_check_minimal.proofs.minimality.is_zero_at_zero.Goals as goal

pub returns : goal.returns
returns c =
    let l = c.value_numerators.ensures.limits in
    let len = l.value_length in
    let some = l.order_low in
    let read : at c.args.shape.now.value 0 ≡ get_or c.value_numerators.result.now 0 (pos 0) =
    at_below c.args.shape.now.value 0 (omega arith)
    ∙ sym (ap (λ xs. get_or xs 0 (pos 0)) c.value_numerators.ensures.value) in
    rw read (search rules)
