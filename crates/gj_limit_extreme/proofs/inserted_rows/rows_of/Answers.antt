use Rattle.std.proofs.Common.{◌≡◌, ◌+◌, ◌<◌, ◌++◌, [], length, length-append, sym, ap, subst, ◌∙◌, arith}
use Rattle.std.specs.Prelude.{All}
use Rattle.gj_elim.proofs.Keeping.{same_error}
use Rattle.gj_limit_system.specs.LimitRows.{IsLimitRowBelow, tight_rows}
use Rattle.gj_limit_extreme.specs.RowsToCome.{tight_rows_from, AreToCome}
use Rattle.gj_limit_extreme.specs.SystemRows.{columns_in}
use Rattle.gj_limit_extreme.proofs.ClaimTexts.{row_names_below}
use Rattle.gj_limit_extreme.proofs.RowOrder.{first_rows, next_rows, no_rows, rows_short}
use Rattle.gj_limit_extreme.proofs.TakenRows.{full_leaves_out, all_inserted}
use Rattle.gj_limit_extreme.proofs.inserted_rows.rows_of.Goals as goal

pub returns-in_err-insert-clause-wide : goal.returns-in_err-insert-clause-wide
returns-in_err-insert-clause-wide c = λ e.
    let f = c.args.shape.now in
    c.in_err-insert.ensures.wide
    (same_error c.from_residual-in_err-insert.result c.in_err-insert.field-0.0 _
    c.from_residual-in_err-insert.ensures.0
    c.from_residual-in_err-insert.ensures.1 e)
    f (tight_rows_from f 0) c.requires.system
    (subst (AreToCome f c.args.system.now.component
    (columns_in c.args.system.now) c.in_ok-rows.rows) (first_rows f)
    (c.in_ok-rows.ensures.to_come f c.requires.system))

pub loop-a-init : goal.loop-a-init
loop-a-init c =
    let f = c.args.shape.now in
    let more = c.insert.ensures.count in
    let none = c.in_ok-rows.ensures.none in
    let short = rows_short f c.order-order.ensures.limits in
    let all = ap length (first_rows f) in
    record {
      columns = c.insert.ensures.columns;
      count = omega arith;
      to_come = c.in_ok-insert.ensures.to_come f (tight_rows_from f 0) c.requires.system
          (subst (AreToCome f c.args.system.now.component
          (columns_in c.args.system.now) c.in_ok-rows.rows) (first_rows f)
          (c.in_ok-rows.ensures.to_come f c.requires.system));
    }

pub returns-then-is_full-clause-rows : goal.returns-then-is_full-clause-rows
returns-then-is_full-clause-rows c =
    let f = c.args.shape.now in
    let comp = c.args.system.now.component in
    let n = columns_in c.args.system.now in
    let full = c.is_full.ensures.0 c.if-is_full.true in
    let columns = c.loop-a.invariant.columns.columns in
    all_inserted f comp n c.loop-a.rows
    (full_leaves_out f comp n c.loop-a.rows (tight_rows_from f c.loop-a.a) []
    (omega arith) c.loop-a.invariant.to_come)

pub insert_all-requires-clause-names : goal.insert_all-requires-clause-names
insert_all-requires-clause-names c =
    let f = c.args.shape.now in
    let names = c.as_slice.ensures.value ∙ c.in_ok-push_tight_rows.ensures
    ∙ ap (λ xs. xs ++ tight_rows f c.loop-a.a) c.clear.ensures.items in
    let below : c.loop-a.a < c.args.shape.now.order = omega (arith, c.order-order.ensures.value) in
    subst (λ q. All (λ name. IsLimitRowBelow name q) c.as_slice.result.now)
    (sym c.requires.system.order)
    (subst (All (λ name. IsLimitRowBelow name c.args.shape.now.order)) (sym names)
    (row_names_below f c.loop-a.a below))

pub insert_all-requires-clause-count : goal.insert_all-requires-clause-count
insert_all-requires-clause-count c =
    let f = c.args.shape.now in
    let names = c.as_slice.ensures.value ∙ c.in_ok-push_tight_rows.ensures
    ∙ ap (λ xs. xs ++ tight_rows f c.loop-a.a) c.clear.ensures.items in
    let below : c.loop-a.a < c.args.shape.now.order = omega (arith, c.order-order.ensures.value) in
    let count = c.loop-a.invariant.count in
    let len = ap length names in
    let all = ap length (next_rows f c.loop-a.a below)
    ∙ length-append (tight_rows f c.loop-a.a) (tight_rows_from f (c.loop-a.a + 1)) in
    omega arith

pub returns-in_err-insert_all-clause-wide : goal.returns-in_err-insert_all-clause-wide
returns-in_err-insert_all-clause-wide c = λ e.
    let f = c.args.shape.now in
    let names = c.as_slice.ensures.value ∙ c.in_ok-push_tight_rows.ensures
    ∙ ap (λ xs. xs ++ tight_rows f c.loop-a.a) c.clear.ensures.items in
    let below : c.loop-a.a < c.args.shape.now.order = omega (arith, c.order-order.ensures.value) in
    c.in_err-insert_all.ensures.wide
    (same_error c.from_residual-in_err-insert_all.result c.in_err-insert_all.field-0.0 _
    c.from_residual-in_err-insert_all.ensures.0
    c.from_residual-in_err-insert_all.ensures.1 e)
    f (tight_rows_from f (c.loop-a.a + 1)) c.requires.system
    (subst (AreToCome f c.args.system.now.component (columns_in c.args.system.now) c.loop-a.rows)
    (next_rows f c.loop-a.a below ∙ ap (λ xs. xs ++ tight_rows_from f (c.loop-a.a + 1)) (sym names))
    c.loop-a.invariant.to_come)

pub loop-a-preserved : goal.loop-a-preserved
loop-a-preserved c =
    let f = c.args.shape.now in
    let names = c.as_slice.ensures.value ∙ c.in_ok-push_tight_rows.ensures
    ∙ ap (λ xs. xs ++ tight_rows f c.loop-a.a) c.clear.ensures.items in
    let below : c.loop-a.a < c.args.shape.now.order = omega (arith, c.order-order.ensures.value) in
    let count = c.loop-a.invariant.count in
    let more = c.insert_all.ensures.count in
    let len = ap length names in
    let all = ap length (next_rows f c.loop-a.a below)
    ∙ length-append (tight_rows f c.loop-a.a) (tight_rows_from f (c.loop-a.a + 1)) in
    record {
      columns = c.insert_all.ensures.columns;
      count = omega arith;
      to_come = c.in_ok-insert_all.ensures.to_come f
          (tight_rows_from f (c.loop-a.a + 1)) c.requires.system
          (subst (AreToCome f c.args.system.now.component
          (columns_in c.args.system.now) c.loop-a.rows)
          (next_rows f c.loop-a.a below ∙ ap (λ xs. xs ++ tight_rows_from f (c.loop-a.a + 1))
          (sym names)) c.loop-a.invariant.to_come);
    }

pub returns-clause-rows : goal.returns-clause-rows
returns-clause-rows c =
    let f = c.args.shape.now in
    let comp = c.args.system.now.component in
    let n = columns_in c.args.system.now in
    all_inserted f comp n c.loop-a.rows
    (subst (AreToCome f comp n c.loop-a.rows)
    (no_rows f c.loop-a.a (omega (arith, c.order-order.ensures.value)))
    c.loop-a.invariant.to_come)
