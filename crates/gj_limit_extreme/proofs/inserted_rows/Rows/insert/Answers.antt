use Rattle.std.proofs.Common.{◌++◌, ◌∷◌, [], length, refl, sym, ap, ◌∙◌, subst, arith}
use Rattle.gj_shape.specs.Elimination.{inserted, Passes}
use Rattle.gj_elim.specs.Data.{behind}
use Rattle.gj_elim.specs.KeptRows.{answer_of}
use Rattle.gj_elim.proofs.Keeping.{same_error}
use Rattle.gj_extreme.proofs.TakenRows.{not_full}
use Rattle.gj_limit_extreme.specs.SystemRows.{columns_in}
use Rattle.gj_limit_extreme.proofs.SystemRows.{written_for}
use Rattle.gj_limit_extreme.proofs.TakenRows.{row_is_kept, row_is_nothing, row_is_wide, full_leaves_out}
use Rattle.gj_limit_extreme.proofs.inserted_rows.Rows.insert.Goals as goal

pub returns-then-is_full-clause-to_come : goal.returns-then-is_full-clause-to_come
returns-then-is_full-clause-to_come c = λ f rest is h.
    let full = c.is_full.ensures.0 c.if-is_full.true in
    let columns = c.requires.columns.columns in
    full_leaves_out f c.args.system.now.component (columns_in c.args.system.now) c.args.self.now
    (c.args.name ∷ rest) rest (omega arith) h

pub returns-in_err-insert-clause-wide : goal.returns-in_err-insert-clause-wide
returns-in_err-insert-clause-wide c = λ e f rest is h.
    let short = not_full c.is_full.result c.args.self.now.columns
    (length c.args.self.now.basis.kept) c.is_full.ensures.1
    c.if-is_full.false in
    let columns = c.requires.columns.columns in
    let read = written_for f c.args.system.now c.args.name c.args.self.now.basis.columns
    c.as_slice.result.now
    c.write_row.new.entries.items is c.in_ok-write_row.ensures.sparse c.in_ok-write_row.ensures.row
    c.requires.columns.basis
    c.as_slice.ensures.value in
    row_is_wide f c.args.system.now.component (columns_in c.args.system.now) c.args.self.now
    c.args.name rest h (omega arith)
    (subst (λ xs. Passes
    (inserted c.args.self.now.basis.columns c.args.self.now.basis.kept xs).marked) read
    (c.in_err-insert.ensures.wide
    (same_error c.from_residual-in_err-insert.result c.in_err-insert.field-0.0 _
    c.from_residual-in_err-insert.ensures.0 c.from_residual-in_err-insert.ensures.1 e)))

pub returns-in-Pivot-clause-to_come : goal.returns-in-Pivot-clause-to_come
returns-in-Pivot-clause-to_come c = λ f rest is h.
    let short = not_full c.is_full.result c.args.self.now.columns
    (length c.args.self.now.basis.kept) c.is_full.ensures.1
    c.if-is_full.false in
    let columns = c.requires.columns.columns in
    let read = written_for f c.args.system.now c.args.name c.args.self.now.basis.columns
    c.as_slice.result.now
    c.write_row.new.entries.items is c.in_ok-write_row.ensures.sparse c.in_ok-write_row.ensures.row
    c.requires.columns.basis
    c.as_slice.ensures.value in
    row_is_kept f c.args.system.now.component (columns_in c.args.system.now) c.args.self.now _
    c.args.name rest c.in-Pivot.field-0 h
    (omega arith)
    record {
      columns = refl;
      basis = c.in_ok-insert.ensures.kept ∙ ap (behind c.args.self.now.basis) read;
      narrow = subst (λ xs. Passes
          (inserted c.args.self.now.basis.columns c.args.self.now.basis.kept xs).marked → ⊥) read
          c.in_ok-insert.ensures.narrow;
    }
    (sym c.in-Pivot.is ∙ c.in_ok-insert.ensures.answer
    ∙ ap (λ xs. answer_of
    (inserted c.args.self.now.basis.columns c.args.self.now.basis.kept xs).kept) read)
    (c.push_reserved.ensures.items
    ∙ ap (λ xs. xs ++ c.args.name ∷ []) c.in_ok-reserve.ensures.items)

pub returns-in_default-clause-to_come : goal.returns-in_default-clause-to_come
returns-in_default-clause-to_come c = λ f rest is h.
    let short = not_full c.is_full.result c.args.self.now.columns
    (length c.args.self.now.basis.kept) c.is_full.ensures.1
    c.if-is_full.false in
    let columns = c.requires.columns.columns in
    let read = written_for f c.args.system.now c.args.name c.args.self.now.basis.columns
    c.as_slice.result.now
    c.write_row.new.entries.items is c.in_ok-write_row.ensures.sparse c.in_ok-write_row.ensures.row
    c.requires.columns.basis
    c.as_slice.ensures.value in
    row_is_nothing f c.args.system.now.component (columns_in c.args.system.now) c.args.self.now _
    c.args.name rest h (omega arith)
    record {
      columns = refl;
      basis = c.in_ok-insert.ensures.kept ∙ ap (behind c.args.self.now.basis) read;
      narrow = subst (λ xs. Passes
          (inserted c.args.self.now.basis.columns c.args.self.now.basis.kept xs).marked → ⊥) read
          c.in_ok-insert.ensures.narrow;
    }
    (sym c.in_default.is ∙ c.in_ok-insert.ensures.answer
    ∙ ap (λ xs. answer_of
    (inserted c.args.self.now.basis.columns c.args.self.now.basis.kept xs).kept) read)
    c.in_ok-reserve.ensures.items
