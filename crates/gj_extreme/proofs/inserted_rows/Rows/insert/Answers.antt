use Rattle.std.proofs.Common.{◌++◌, ◌∷◌, [], length, refl, sym, ap, ap₂, ◌∙◌, subst, arith}
use Rattle.std.proofs.lemmas.List.{with_items_is}
use Rattle.gj_shape.specs.Elimination.{inserted, Passes}
use Rattle.gj_shape.specs.SlopeRows.{row_of, component_in}
use Rattle.gj_elim.specs.Data.{behind}
use Rattle.gj_elim.specs.KeptRows.{answer_of}
use Rattle.gj_elim.proofs.Keeping.{same_error}
use Rattle.gj_extreme.proofs.TakenRows.{row_is_kept, row_is_nothing, row_is_wide, full_is_taken, not_full}
use Rattle.gj_extreme.proofs.inserted_rows.Rows.insert.Goals as goal

pub returns-then-is_full-clause-to_come : goal.returns-then-is_full-clause-to_come
returns-then-is_full-clause-to_come c = λ rest h.
    let full = c.is_full.ensures.0 c.if-is_full.true in
    full_is_taken c.args.shape.now (component_in c.args.system.now.component)
    c.args.system.now.columns c.args.self.now c.args.name rest
    (omega (arith, h.width)) h

pub insert-requires-clause-count : goal.insert-requires-clause-count
insert-requires-clause-count c =
    let short = not_full c.is_full.result (length c.args.self.now.row.items)
    (length c.args.self.now.basis.kept) c.is_full.ensures.1
    c.if-is_full.false in
    let count = c.requires.ready.count (omega (arith, c.requires.ready.width)) in
    omega arith

pub returns-in_err-insert-clause-wide : goal.returns-in_err-insert-clause-wide
returns-in_err-insert-clause-wide c = λ e rest h.
    let f = c.args.shape.now in
    let comp = component_in c.args.system.now.component in
    let n = c.args.system.now.columns in
    let short = not_full c.is_full.result (length c.args.self.now.row.items)
    (length c.args.self.now.basis.kept) c.is_full.ensures.1
    c.if-is_full.false in
    let held = with_items_is c.args.self.now.row c.write_row.new.row
    (c.write_row.auto.row ∙ c.as_mut_slice.ensures.len) in
    let named = c.write_row.ensures.row
    ∙ ap₂ (λ q k. row_of comp n q k c.args.name) c.requires.order c.place.ensures.value in
    row_is_wide f comp n c.args.self.now c.args.name rest c.requires.limits h
    (omega (arith, h.width))
    (subst (λ xs. Passes
    (inserted c.args.self.now.basis.columns c.args.self.now.basis.kept xs).marked)
    (c.as_slice.ensures.value ∙ held ∙ named)
    (c.in_err-insert.ensures.wide
    (same_error c.from_residual-in_err-insert.result c.in_err-insert.field-0.0 _
    c.from_residual-in_err-insert.ensures.0 c.from_residual-in_err-insert.ensures.1 e)))

pub returns-in-Pivot-clause-to_come : goal.returns-in-Pivot-clause-to_come
returns-in-Pivot-clause-to_come c = λ rest h.
    let f = c.args.shape.now in
    let comp = component_in c.args.system.now.component in
    let n = c.args.system.now.columns in
    let short = not_full c.is_full.result (length c.args.self.now.row.items)
    (length c.args.self.now.basis.kept) c.is_full.ensures.1
    c.if-is_full.false in
    let held = with_items_is c.args.self.now.row c.write_row.new.row
    (c.write_row.auto.row ∙ c.as_mut_slice.ensures.len) in
    let named = c.write_row.ensures.row
    ∙ ap₂ (λ q k. row_of comp n q k c.args.name) c.requires.order c.place.ensures.value in
    let read = c.as_slice.ensures.value ∙ held ∙ named in
    row_is_kept f comp n c.args.self.now _ c.args.name rest c.in-Pivot.field-0 h
    (omega (arith, h.width))
    record {
      basis = c.in_ok-insert.ensures.kept ∙ ap (behind c.args.self.now.basis) read;
      width = ap length held ∙ c.write_row.auto.row ∙ c.as_mut_slice.ensures.len
          ∙ c.args.self.now.row.ok.0 ∙ h.width;
      narrow = subst (λ xs. Passes
          (inserted c.args.self.now.basis.columns c.args.self.now.basis.kept xs).marked → ⊥) read
          c.in_ok-insert.ensures.narrow;
      seen = refl;
    }
    (sym c.in-Pivot.is ∙ c.in_ok-insert.ensures.answer
    ∙ ap (λ xs. answer_of
    (inserted c.args.self.now.basis.columns c.args.self.now.basis.kept xs).kept) read)
    (c.push_reserved.ensures.items
    ∙ ap (λ xs. xs ++ c.args.name ∷ []) c.in_ok-reserve.ensures.items)

pub returns-in_default-clause-to_come : goal.returns-in_default-clause-to_come
returns-in_default-clause-to_come c = λ rest h.
    let f = c.args.shape.now in
    let comp = component_in c.args.system.now.component in
    let n = c.args.system.now.columns in
    let short = not_full c.is_full.result (length c.args.self.now.row.items)
    (length c.args.self.now.basis.kept) c.is_full.ensures.1
    c.if-is_full.false in
    let held = with_items_is c.args.self.now.row c.write_row.new.row
    (c.write_row.auto.row ∙ c.as_mut_slice.ensures.len) in
    let named = c.write_row.ensures.row
    ∙ ap₂ (λ q k. row_of comp n q k c.args.name) c.requires.order c.place.ensures.value in
    let read = c.as_slice.ensures.value ∙ held ∙ named in
    row_is_nothing f comp n c.args.self.now _ c.args.name rest h (omega (arith, h.width))
    record {
      basis = c.in_ok-insert.ensures.kept ∙ ap (behind c.args.self.now.basis) read;
      width = ap length held ∙ c.write_row.auto.row ∙ c.as_mut_slice.ensures.len
          ∙ c.args.self.now.row.ok.0 ∙ h.width;
      narrow = subst (λ xs. Passes
          (inserted c.args.self.now.basis.columns c.args.self.now.basis.kept xs).marked → ⊥) read
          c.in_ok-insert.ensures.narrow;
      seen = refl;
    }
    (sym c.in_default.is ∙ c.in_ok-insert.ensures.answer
    ∙ ap (λ xs. answer_of
    (inserted c.args.self.now.basis.columns c.args.self.now.basis.kept xs).kept) read)
    c.in_ok-reserve.ensures.items
