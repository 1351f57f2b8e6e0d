use Rattle.std.proofs.Common.{◌+◌, ◌<◌, ◌++◌, sym, ap, ◌∙◌, append_assoc, arith}
use Rattle.gj_limit_system.specs.LimitRows.{tight_rows}
use Rattle.gj_limit_extreme.specs.RowsToCome.{tight_rows_from}
use Rattle.gj_limit_extreme.proofs.FaultCases.{cause_of}
use Rattle.gj_limit_extreme.proofs.TakenRows.{all_inserted}
use Rattle.gj_limit_extreme.proofs.RowOrder.{next_rows}
use Rattle.gj_limit_extreme.proofs.residues.names_of.Goals as goal

pub loop-a-preserved : goal.loop-a-preserved
loop-a-preserved c =
    let f = c.args.shape.now in
    let below : c.loop-a.a < c.args.shape.now.order = omega (arith, c.order-order.ensures.value) in
    ap (λ names. names ++ tight_rows_from f (c.loop-a.a + 1)) c.in_ok-push_tight_rows.ensures
    ∙ append_assoc c.loop-a.names.items (tight_rows f c.loop-a.a)
    (tight_rows_from f (c.loop-a.a + 1))
    ∙ ap (λ names. c.loop-a.names.items ++ names) (sym (next_rows f c.loop-a.a below))
    ∙ c.loop-a.invariant
