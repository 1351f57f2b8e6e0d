use Rattle.std.proofs.Common.{rules, length, pos, get_or, [], ◌∷◌, ◌++◌, sym, ap, subst, ◌∙◌, arith}
use Rattle.std.specs.Prelude.{All}
use Rattle.gj_shape.specs.Elimination.{whole_numbers}
use Rattle.gj_frac.specs.Fraction.{Fits}
use Rattle.gj_elim.specs.Tables.{rows_of}
use Rattle.gj_theory.proofs.WideNumbers.{some_from_bits, zero_from_bits}
use Rattle.gj_elim.proofs.KeptTables.{kept_row_read, none_there, free_there}
use Rattle.gj_elim.proofs.Progressing.{behind_zero, behind_step, behind_wide, behind_kept, behind_end}
use Rattle.gj_elim.proofs.reduce.reduce_exactly.Goals as goal
use Rattle.gj_elim.proofs.reduce.reduce_exactly.Goals.{then-row-column-ne0+in-Some+in_ok-reduce_by-in-Some+in_ok-reserve-in-Some, else-row-column-ne0}

pub returns-in-None-clause-done : goal.returns-in-None-clause-done
returns-in-None-clause-done c i start =
    behind_kept whole_numbers i c.loop-column.reduce.items
    (rows_of c.args.kept.now) (length c.args.row.now) c.loop-column.column
    c.loop-column.row
    (c.loop-column.invariant.behind i start) (omega arith)
    (some_from_bits (get_or c.loop-column.row c.loop-column.column (pos 0))
    c.if-row-column-ne0.true)
    (none_there (length c.args.row.now) c.args.kept.now c.loop-column.column c.index.result.now
    c.requires.kept (omega arith) c.index.ensures c.in-None.is)

pub returns-in-None-clause-within : goal.returns-in-None-clause-within
returns-in-None-clause-within c =
    free_there (length c.args.row.now) c.args.kept.now c.loop-column.column c.index.result.now
    c.requires.kept (omega arith) c.index.ensures c.in-None.is

pub reduce_by-requires-clause-columns : goal.reduce_by-requires-clause-columns
reduce_by-requires-clause-columns c =
    let row = kept_row_read (length c.args.row.now) c.args.kept.now c.loop-column.column
    c.in-Some.place
    c.index.result.now _ c.as_slice.result.now c.requires.kept (omega arith) c.index.ensures
    c.in-Some.is c.index-in-Some.ensures c.as_slice.ensures in
    row.pivot.columns ∙ sym c.loop-column.auto.row

pub reduce_by-requires-clause-positive : goal.reduce_by-requires-clause-positive
reduce_by-requires-clause-positive c =
    let row = kept_row_read (length c.args.row.now) c.args.kept.now c.loop-column.column
    c.in-Some.place
    c.index.result.now _ c.as_slice.result.now c.requires.kept (omega arith) c.index.ensures
    c.in-Some.is c.index-in-Some.ensures c.as_slice.ensures in
    row.pivot.positive

pub returns-in_err-reduce_by-in-Some-clause-wide : goal.returns-in_err-reduce_by-in-Some-clause-wide
returns-in_err-reduce_by-in-Some-clause-wide c =
    let row = kept_row_read (length c.args.row.now) c.args.kept.now c.loop-column.column
    c.in-Some.place
    c.index.result.now _ c.as_slice.result.now c.requires.kept (omega arith) c.index.ensures
    c.in-Some.is c.index-in-Some.ensures c.as_slice.ensures in
    λ e i start. behind_wide whole_numbers i c.loop-column.reduce.items
    (rows_of c.args.kept.now) (length c.args.row.now) c.loop-column.column
    c.loop-column.row c.as_slice.result.now
    (c.loop-column.invariant.behind i start) (omega arith)
    (some_from_bits (get_or c.loop-column.row c.loop-column.column (pos 0))
    c.if-row-column-ne0.true)
    row.here c.in_err-reduce_by-in-Some.ensures.wide

pub loop-column-preserved : goal.loop-column-preserved
loop-column-preserved c =
    elim c.if-row-column-ne0.branch [
      | then-row-column-ne0+in-Some+in_ok-reduce_by-in-Some+in_ok-reserve-in-Some w ↦
          let row = kept_row_read (length c.args.row.now) c.args.kept.now c.loop-column.column
          w.in-Some.place
          w.index.result.now _ w.as_slice.result.now c.requires.kept (omega arith) w.index.ensures
          w.in-Some.is w.index-in-Some.ensures w.as_slice.ensures in
          record {
            behind = λ i start. behind_step whole_numbers i c.loop-column.reduce.items _
                (rows_of c.args.kept.now)
                (length c.args.row.now) c.loop-column.column
                c.loop-column.row w.as_slice.result.now _ (c.loop-column.invariant.behind i start)
                (omega arith) (some_from_bits
                (get_or c.loop-column.row c.loop-column.column (pos 0))
                w.if-row-column-ne0.true)
                row.here w.in_ok-reduce_by-in-Some.ensures.narrow
                (w.row-is ∙ w.in_ok-reduce_by-in-Some.ensures.value)
                (ap (λ v. v.items) w.reduce-is ∙ w.push_reserved.ensures.items
                ∙ ap (λ xs. xs ++ c.loop-column.column ∷ []) w.in_ok-reserve-in-Some.ensures.items);
            fits = subst (All Fits) (sym w.row-is) w.in_ok-reduce_by-in-Some.ensures.fits;
          }
      | else-row-column-ne0 w ↦
          record {
            behind = λ i start.
                let zero = zero_from_bits (get_or c.loop-column.row c.loop-column.column (pos 0))
                (search rules) w.if-row-column-ne0.false in
                let on = behind_zero whole_numbers i c.loop-column.reduce.items
                (rows_of c.args.kept.now)
                (length c.args.row.now) c.loop-column.column c.loop-column.row
                (c.loop-column.invariant.behind i start) (omega arith) zero in
                rw (w.row-is, ap (λ v. v.items) w.reduce-is) on;
            fits = subst (All Fits) (sym w.row-is) c.loop-column.invariant.fits;
          }
    ]

pub returns-clause-done : goal.returns-clause-done
returns-clause-done c i start =
    behind_end whole_numbers i c.loop-column.reduce.items (rows_of c.args.kept.now)
    (length c.args.row.now) c.loop-column.column c.loop-column.row
    (c.loop-column.invariant.behind i start) (omega arith)
