use Rattle.std.proofs.Common.{length, [], ◌∷◌, ◌++◌, sym, ap, subst, ◌∙◌, arith}
use Rattle.gj_shape.specs.Residues.{modulo}
use Rattle.gj_theory.specs.Modulus.{modulus}
use Rattle.gj_elim.proofs.Progressing.{behind_start, behind_zero, behind_step, behind_kept, behind_end}
use Rattle.gj_theory.proofs.Passing.{none_passes}
use Rattle.gj_residue.specs.Rows.{numbers_of, AreResidues, kept_residues}
use Rattle.gj_residue.proofs.Inserting.{some_number, zero_number, kept_row_read, none_there}
use Rattle.gj_residue.proofs.reduce.reduce_columns.Goals as goal
use Rattle.gj_residue.proofs.reduce.reduce_columns.Goals.{then-row-column-ne0+in-Some+in_ok-reserve-in-Some, else-row-column-ne0}

pub loop-column-init : goal.loop-column-init
loop-column-init c = record {
  behind = behind_start (modulo modulus) (kept_residues c.args.kept.now)
      (length c.args.row.now) (numbers_of c.args.row.now)
      c.args.reduce.now.items c.requires.empty;
  below = c.requires.below;
}

pub returns-in-None-clause-left : goal.returns-in-None-clause-left
returns-in-None-clause-left c =
    (behind_kept (modulo modulus) _ c.loop-column.reduce.items
    (kept_residues c.args.kept.now) (length c.args.row.now)
    c.loop-column.column (numbers_of c.loop-column.row) c.loop-column.invariant.behind (omega arith)
    (some_number c.loop-column.row c.loop-column.column (omega arith))
    (none_there (length c.args.row.now) c.args.kept.now c.loop-column.column _ c.requires.kept
    c.as_slice.ensures.value c.in-None.ensures)).left_is

pub reduce_by-requires-clause-columns : goal.reduce_by-requires-clause-columns
reduce_by-requires-clause-columns c =
    (kept_row_read (length c.args.row.now) c.args.kept.now c.loop-column.column
    c.in-Some.place _ _ c.as_slice-in-Some.result.now c.requires.kept
    c.as_slice.ensures.value c.in-Some.ensures c.index.ensures
    c.as_slice-in-Some.ensures).columns
    ∙ sym c.loop-column.auto.row

pub loop-column-preserved : goal.loop-column-preserved
loop-column-preserved c =
    elim c.if-row-column-ne0.branch [
      | then-row-column-ne0+in-Some+in_ok-reserve-in-Some w ↦
          let read = kept_row_read (length c.args.row.now) c.args.kept.now c.loop-column.column
          w.in-Some.place _ _ w.as_slice-in-Some.result.now c.requires.kept
          w.as_slice.ensures.value w.in-Some.ensures w.index.ensures
          w.as_slice-in-Some.ensures in
          record {
            behind = behind_step (modulo modulus) _ c.loop-column.reduce.items _
                (kept_residues c.args.kept.now)
                (length c.args.row.now) c.loop-column.column (numbers_of c.loop-column.row)
                (numbers_of w.as_slice-in-Some.result.now) _
                c.loop-column.invariant.behind (omega arith)
                (some_number c.loop-column.row c.loop-column.column
                (omega (arith, w.if-row-column-ne0.true)))
                read.here
                none_passes (ap numbers_of w.row-is ∙ w.reduce_by.ensures.value)
                (ap (λ v. v.items) w.reduce-is ∙ w.push_reserved.ensures.items
                ∙ ap (λ xs. xs ++ c.loop-column.column ∷ []) w.in_ok-reserve-in-Some.ensures.items);
            below = subst AreResidues (sym w.row-is) w.reduce_by.ensures.below;
          }
      | else-row-column-ne0 w ↦
          record {
            behind =
                let on = behind_zero (modulo modulus) _ c.loop-column.reduce.items
                (kept_residues c.args.kept.now)
                (length c.args.row.now) c.loop-column.column
                (numbers_of c.loop-column.row) c.loop-column.invariant.behind
                (omega arith) (zero_number c.loop-column.row c.loop-column.column
                (omega (arith, w.if-row-column-ne0.false))) in
                rw (w.row-is, ap (λ v. v.items) w.reduce-is) on;
            below = subst AreResidues (sym w.row-is) c.loop-column.invariant.below;
          }
    ]

pub returns-clause-left : goal.returns-clause-left
returns-clause-left c =
    (behind_end (modulo modulus) _ c.loop-column.reduce.items
    (kept_residues c.args.kept.now) (length c.args.row.now)
    c.loop-column.column (numbers_of c.loop-column.row) c.loop-column.invariant.behind
    (omega arith)).left_is
