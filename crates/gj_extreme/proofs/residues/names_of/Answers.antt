use Rattle.std.proofs.Common.{◌+◌, ◌<◌, ◌++◌, sym, ap, ◌∙◌, arith}
use Rattle.gj_extreme.specs.RowsToCome.{row_names_from}
use Rattle.gj_extreme.proofs.RowOrder.{next_rows}
use Rattle.gj_extreme.proofs.residues.names_of.Goals as goal

pub loop-a-preserved : goal.loop-a-preserved
loop-a-preserved c =
    let f = c.args.shape.now in
    let below : c.loop-a.a < c.args.shape.now.order = omega (arith, c.order-order.ensures.value) in
    c.in_ok-push_names.ensures f (row_names_from f (c.loop-a.a + 1)) c.requires
    ∙ ap (λ names. c.loop-a.names.items ++ names) (sym (next_rows f c.loop-a.a below))
    ∙ c.loop-a.invariant
