use Rattle.std.proofs.Common.{◌∷◌, length, sym, ap, subst, ◌∙◌, arith}
use Rattle.gj_shape.specs.SlopeRows.{component_in}
use Rattle.gj_shape.specs.declared.extremality.RowName.TheVariants.{F}
use Rattle.gj_elim.proofs.Keeping.{same_error}
use Rattle.gj_extreme.specs.PairsLeft.{AreIntervalsOf}
use Rattle.gj_extreme.specs.RowsToCome.{AreToCome, row_names_from}
use Rattle.gj_extreme.specs.SeenPairs.{AreSeenBelow}
use Rattle.gj_extreme.proofs.RowOrder.{no_rows}
use Rattle.gj_extreme.proofs.SeenRows.{places_are_made}
use Rattle.gj_extreme.proofs.TakenRows.{rows_are_ready, full_takes_all, all_inserted}
use Rattle.gj_extreme.proofs.inserted_rows.rows_of.Goals as goal

pub insert-requires-clause-ready : goal.insert-requires-clause-ready
insert-requires-clause-ready c =
    rows_are_ready c.args.shape.now (component_in c.args.system.now.component)
    c.args.system.now.columns c.in_ok-rows.rows _
    c.order-order.ensures.limits (c.in_ok-rows.ensures c.args.shape.now (sym c.requires.components))

pub returns-in_err-insert-clause-wide : goal.returns-in_err-insert-clause-wide
returns-in_err-insert-clause-wide c = λ e.
    c.in_err-insert.ensures.wide
    (same_error c.from_residual-in_err-insert.result c.in_err-insert.field-0.0 _
    c.from_residual-in_err-insert.ensures.0
    c.from_residual-in_err-insert.ensures.1 e)
    (F ∷ row_names_from c.args.shape.now 1)
    (c.in_ok-rows.ensures c.args.shape.now (sym c.requires.components))

pub insert-requires-2-clause-ready : goal.insert-requires-2-clause-ready
insert-requires-2-clause-ready c =
    rows_are_ready c.args.shape.now (component_in c.args.system.now.component)
    c.args.system.now.columns c.insert.new.self
    (F ∷ row_names_from c.args.shape.now 1) c.order-order.ensures.limits
    (c.in_ok-insert.ensures.to_come (F ∷ row_names_from c.args.shape.now 1)
    (c.in_ok-rows.ensures c.args.shape.now (sym c.requires.components))).0

pub returns-in_err-insert-2-clause-wide : goal.returns-in_err-insert-2-clause-wide
returns-in_err-insert-2-clause-wide c = λ e.
    c.in_err-insert-2.ensures.wide
    (same_error c.from_residual-in_err-insert-2.result c.in_err-insert-2.field-0.0 _
    c.from_residual-in_err-insert-2.ensures.0
    c.from_residual-in_err-insert-2.ensures.1 e)
    (row_names_from c.args.shape.now 1)
    (c.in_ok-insert.ensures.to_come (F ∷ row_names_from c.args.shape.now 1)
    (c.in_ok-rows.ensures c.args.shape.now (sym c.requires.components))).0

pub loop-a-init : goal.loop-a-init
loop-a-init c =
    let same = ap length c.component.ensures ∙ c.requires.components in (
      places_are_made c.args.shape.now (component_in c.args.system.now.component)
          c.args.system.now.columns c.insert-2.new.self
          _ (row_names_from c.args.shape.now 1)
          (omega (arith, c.order-order.ensures.limits.order_low)) c.in_ok-rows-2.ensures.zeros
          (c.in_ok-insert-2.ensures.to_come (row_names_from c.args.shape.now 1)
          (c.in_ok-insert.ensures.to_come (F ∷ row_names_from c.args.shape.now 1)
          (c.in_ok-rows.ensures c.args.shape.now (sym c.requires.components))).0).0,
      subst (λ q. AreSeenBelow q c.in_ok-rows-2.field-0) same c.in_ok-rows-2.ensures.below,
    )

pub returns-then-is_full-clause-rows : goal.returns-then-is_full-clause-rows
returns-then-is_full-clause-rows c =
    let f = c.args.shape.now in
    let comp = component_in c.args.system.now.component in
    let n = c.args.system.now.columns in
    let full = c.is_full.ensures.0 c.if-is_full.true in
    let to_come = (c.in_ok-insert-2.ensures.to_come (row_names_from c.args.shape.now 1)
    (c.in_ok-insert.ensures.to_come (F ∷ row_names_from c.args.shape.now 1)
    (c.in_ok-rows.ensures c.args.shape.now (sym c.requires.components))).0).0 in
    all_inserted f comp n c.insert-2.new.self c.order-order.ensures.limits
    (full_takes_all f comp n c.insert-2.new.self _ (omega (arith, to_come.width)) to_come)

pub intervals_of-requires : goal.intervals_of-requires
intervals_of-requires c =
    omega (arith, c.requires.components, c.order-order.ensures.limits.order_high)

pub insert_pairs-requires-clause-intervals : goal.insert_pairs-requires-clause-intervals
insert_pairs-requires-clause-intervals c =
    let comp = component_in c.args.system.now.component in
    subst (λ sets. AreIntervalsOf comp c.args.shape.now.order sets) (sym c.as_slice.ensures.value)
    (subst (λ q. AreIntervalsOf comp q c.in_ok-intervals.intervals.items) c.requires.components
    c.in_ok-intervals.ensures)

pub returns-then-is_full-2-clause-rows : goal.returns-then-is_full-2-clause-rows
returns-then-is_full-2-clause-rows c =
    let f = c.args.shape.now in
    let comp = component_in c.args.system.now.component in
    let n = c.args.system.now.columns in
    let full = c.is_full-in-loop-a.ensures.0 c.if-is_full-2.true in
    let to_come = c.in_ok-insert_pairs.ensures.to_come in
    all_inserted f comp n c.insert_pairs.new.rows c.order-order.ensures.limits
    (full_takes_all f comp n c.insert_pairs.new.rows _ (omega (arith, to_come.width)) to_come)

pub returns-clause-rows : goal.returns-clause-rows
returns-clause-rows c =
    let f = c.args.shape.now in
    let comp = component_in c.args.system.now.component in
    let n = c.args.system.now.columns in
    all_inserted f comp n c.loop-a.rows c.order-order.ensures.limits
    (subst (AreToCome f comp n c.loop-a.rows)
    (no_rows f c.loop-a.a (omega (arith, c.order-order.ensures.value))) c.loop-a.invariant.0)
