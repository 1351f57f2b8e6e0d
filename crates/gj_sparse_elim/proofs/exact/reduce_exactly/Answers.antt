use Rattle.std.proofs.Common.{rules, ◌≡◌, ℕ, ℤ, List, length, pos, ◌<ℤ◌, get_or, [], ◌∷◌, ◌++◌, sym, ap, subst, ◌∙◌, arith}
use Rattle.std.specs.Prelude.{All}
use Rattle.gj_shape.specs.Elimination.{whole_numbers, at_column}
use Rattle.gj_frac.specs.Fraction.{Fits}
use Rattle.gj_theory.proofs.WideNumbers.{some_from_bits, zero_from_bits}
use Rattle.gj_elim.proofs.Places.{entries_at}
use Rattle.gj_elim.proofs.Progressing.{behind_zero, behind_step, behind_wide, behind_kept, behind_end}
use Rattle.gj_sparse_elim.specs.declared.entry.Entry.{Entry}
use Rattle.gj_sparse_elim.specs.Sparse.{AreSparse, dense}
use Rattle.gj_sparse_elim.specs.Rows.{sparse_rows}
use Rattle.gj_sparse_elim.proofs.KeptEntries.{sparse_pivot, none_there, free_there}
use Rattle.gj_sparse_elim.proofs.SparseRows.{dense_fits}
use Rattle.gj_sparse_elim.proofs.exact.reduce_exactly.Goals as goal
use Rattle.gj_sparse_elim.proofs.exact.reduce_exactly.Goals.{then-row-column-ne0+in-Some+in_ok-reduce_by-in-Some+in_ok-reserve-in-Some, else-row-column-ne0}

pub returns-in-None-clause-done : goal.returns-in-None-clause-done
returns-in-None-clause-done c i start =
    behind_kept whole_numbers i c.loop-column.reduce.items
    (sparse_rows (length c.args.row.now) c.args.kept.now) (length c.args.row.now)
    c.loop-column.column c.loop-column.row
    (c.loop-column.invariant.behind i start) (omega arith)
    (some_from_bits (get_or c.loop-column.row c.loop-column.column (pos 0))
    c.if-row-column-ne0.true)
    (none_there (length c.args.row.now) c.args.kept.now c.loop-column.column c.index.result.now
    c.requires.kept (omega arith) c.index.ensures c.in-None.is)

pub returns-in-None-clause-within : goal.returns-in-None-clause-within
returns-in-None-clause-within c =
    free_there (length c.args.row.now) c.args.kept.now c.loop-column.column c.index.result.now
    c.requires.kept (omega arith) c.index.ensures c.in-None.is

pub spread-requires : goal.spread-requires
spread-requires c =
    let e = sparse_pivot (length c.args.row.now) c.args.kept.now c.loop-column.column
    c.in-Some.place c.index.result.now _ c.as_slice.result.now c.requires.kept
    (omega arith) c.index.ensures c.in-Some.is c.index-in-Some.ensures
    c.as_slice.ensures in
    subst (λ (n : ℕ). AreSparse n c.as_slice.result.now)
    (sym (c.loop-column.auto.kept_row ∙ c.requires.kept_columns)) e.sparse

-- the kept row as it is written
written : (n m : ℕ) (row : List ℤ) (e : List Entry) → row ≡ dense m e → m ≡ n → row ≡ dense n e
written n m row e is same = is ∙ ap (λ l. dense l e) same

pub reduce_by-requires-clause-fits : goal.reduce_by-requires-clause-fits
reduce_by-requires-clause-fits c =
    let e = sparse_pivot (length c.args.row.now) c.args.kept.now c.loop-column.column
    c.in-Some.place c.index.result.now _ c.as_slice.result.now c.requires.kept
    (omega arith) c.index.ensures c.in-Some.is c.index-in-Some.ensures
    c.as_slice.ensures in
    subst (λ (xs : List ℤ). All Fits xs)
    (sym (written (length c.args.row.now) _ c.spread.new.row c.as_slice.result.now c.spread.ensures
    (c.loop-column.auto.kept_row ∙ c.requires.kept_columns)))
    (dense_fits (length c.args.row.now) c.as_slice.result.now e.sparse)

pub reduce_by-requires-clause-positive : goal.reduce_by-requires-clause-positive
reduce_by-requires-clause-positive c =
    let e = sparse_pivot (length c.args.row.now) c.args.kept.now c.loop-column.column
    c.in-Some.place c.index.result.now _ c.as_slice.result.now c.requires.kept
    (omega arith) c.index.ensures c.in-Some.is c.index-in-Some.ensures
    c.as_slice.ensures in
    subst (λ (xs : List ℤ). pos 0 <ℤ at_column xs c.loop-column.column)
    (sym (written (length c.args.row.now) _ c.spread.new.row c.as_slice.result.now c.spread.ensures
    (c.loop-column.auto.kept_row ∙ c.requires.kept_columns)))
    e.pivot.positive

pub returns-in_err-reduce_by-in-Some-clause-wide : goal.returns-in_err-reduce_by-in-Some-clause-wide
returns-in_err-reduce_by-in-Some-clause-wide c =
    let e = sparse_pivot (length c.args.row.now) c.args.kept.now c.loop-column.column
    c.in-Some.place c.index.result.now _ c.as_slice.result.now c.requires.kept
    (omega arith) c.index.ensures c.in-Some.is c.index-in-Some.ensures
    c.as_slice.ensures in
    λ error i start. behind_wide whole_numbers i c.loop-column.reduce.items
    (sparse_rows (length c.args.row.now) c.args.kept.now) (length c.args.row.now)
    c.loop-column.column c.loop-column.row
    c.spread.new.row (c.loop-column.invariant.behind i start) (omega arith)
    (some_from_bits (get_or c.loop-column.row c.loop-column.column (pos 0))
    c.if-row-column-ne0.true)
    (entries_at (sparse_rows (length c.args.row.now) c.args.kept.now)
    c.loop-column.column (dense (length c.args.row.now) c.as_slice.result.now) c.spread.new.row
    (written (length c.args.row.now) _ c.spread.new.row c.as_slice.result.now c.spread.ensures
    (c.loop-column.auto.kept_row ∙ c.requires.kept_columns)) e.here)
    c.in_err-reduce_by-in-Some.ensures.wide

pub loop-column-preserved : goal.loop-column-preserved
loop-column-preserved c =
    elim c.if-row-column-ne0.branch [
      | then-row-column-ne0+in-Some+in_ok-reduce_by-in-Some+in_ok-reserve-in-Some w ↦
          let e = sparse_pivot (length c.args.row.now) c.args.kept.now c.loop-column.column
          w.in-Some.place w.index.result.now _ w.as_slice.result.now c.requires.kept
          (omega arith) w.index.ensures w.in-Some.is w.index-in-Some.ensures
          w.as_slice.ensures in
          record {
            behind = λ i start. behind_step whole_numbers i c.loop-column.reduce.items _
                (sparse_rows (length c.args.row.now) c.args.kept.now)
                (length c.args.row.now) c.loop-column.column
                c.loop-column.row w.spread.new.row _ (c.loop-column.invariant.behind i start)
                (omega arith)
                (some_from_bits (get_or c.loop-column.row c.loop-column.column (pos 0))
                w.if-row-column-ne0.true)
                (entries_at (sparse_rows (length c.args.row.now) c.args.kept.now)
                c.loop-column.column (dense (length c.args.row.now) w.as_slice.result.now)
                w.spread.new.row
                (written (length c.args.row.now) _ w.spread.new.row w.as_slice.result.now
                w.spread.ensures
                (c.loop-column.auto.kept_row ∙ c.requires.kept_columns)) e.here)
                w.in_ok-reduce_by-in-Some.ensures.narrow
                (w.row-is ∙ w.in_ok-reduce_by-in-Some.ensures.value)
                (ap (λ v. v.items) w.reduce-is ∙ w.push_reserved.ensures.items
                ∙ ap (λ xs. xs ++ c.loop-column.column ∷ []) w.in_ok-reserve-in-Some.ensures.items);
            fits = subst (All Fits) (sym w.row-is) w.in_ok-reduce_by-in-Some.ensures.fits;
          }
      | else-row-column-ne0 w ↦
          record {
            behind = λ i start.
                let zero = zero_from_bits (get_or c.loop-column.row c.loop-column.column (pos 0))
                (search rules) w.if-row-column-ne0.false in
                let on = behind_zero whole_numbers i c.loop-column.reduce.items
                (sparse_rows (length c.args.row.now) c.args.kept.now)
                (length c.args.row.now) c.loop-column.column c.loop-column.row
                (c.loop-column.invariant.behind i start) (omega arith) zero in
                rw (w.row-is, ap (λ v. v.items) w.reduce-is) on;
            fits = subst (All Fits) (sym w.row-is) c.loop-column.invariant.fits;
          }
    ]

pub returns-clause-done : goal.returns-clause-done
returns-clause-done c i start =
    behind_end whole_numbers i c.loop-column.reduce.items
    (sparse_rows (length c.args.row.now) c.args.kept.now) (length c.args.row.now)
    c.loop-column.column c.loop-column.row
    (c.loop-column.invariant.behind i start) (omega arith)
