use Rattle.std.proofs.Common.{arith}
use Rattle.gj_faces.proofs.PairRows.{rows_within, all_rows_tell}
use Rattle.gj_faces.proofs.tight_pairs.TightPairs.new.Goals as goal

pub invariant_of-result : goal.invariant_of-result
invariant_of-result c =
    let f = c.args.shape.now in
    let limits = c.order-order.ensures.limits in
    let rows = c.in_ok-rows.ensures in
    let count = rows.count in
    let e = c.order-order.ensures.value in record {
      few = (omega (arith, limits.order_low), omega (arith, limits.order_high));
      whole = omega arith;
      within = λ a b past. rows_within f c.in_ok-rows.rows.items f.order rows a b (omega arith);
    }

pub returns : goal.returns
returns c = all_rows_tell c.args.shape.now _ c.order-order.ensures.limits c.in_ok-rows.ensures
    c.order-order.ensures.value
