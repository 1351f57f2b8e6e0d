use Rattle.std.proofs.Common.{rules, ℕ, ◌<◌, ◌^◌, ℤ, pos, ◌*ℤ◌, List, length, get_or, unsigned_abs, FitsSigned, refl, sym, subst, arith}
use Rattle.std.proofs.lemmas.Int.{to_z-of_z}
use mir.Syntax.{w64, w128}
use Rattle.gj_shape.specs.Elimination.{at_column}
use Rattle.gj_theory.proofs.WideNumbers.{fits_width}
use Rattle.gj_elim.proofs.LazyRows.{code_product, code_subtraction}
use Rattle.gj_sparse_elim.specs.declared.entry.Entry.{Entry}
use Rattle.gj_sparse_elim.specs.Sparse.{dense}
use Rattle.gj_sparse_elim.proofs.ColumnSets.{support_set}
use Rattle.gj_sparse_elim.proofs.SparseRows.{no_entry, IsAtEntry, entry_at}
use Rattle.gj_sparse_elim.proofs.SparseSteps.{subtracted_start, old_at, subtracted_more, read_subtracted, subtracted_end}
use Rattle.gj_sparse_elim.proofs.lazy.subtract.Goals as goal

-- the entry, and what it and its product are below
record IsEntryRead (w : ℤ) (n : ℕ) (e : Entry) : Type 0 where
  inside : e.column < n
  fits : FitsSigned w128 e.factor
  product : unsigned_abs (w *ℤ e.factor) < 2 ^ 62
  small : unsigned_abs e.factor < 2 ^ 63

read : (w : ℤ) (n : ℕ) (entries : List Entry) (i a : ℕ) →
    ((k : ℕ) → unsigned_abs (w *ℤ at_column (dense n entries) k) < 2 ^ 62) →
    ((k : ℕ) → unsigned_abs (at_column (dense n entries) k) < 2 ^ 63) → IsAtEntry n entries i a →
    i < length entries →
    IsEntryRead w n (get_or entries i no_entry)
read w n entries i a products small at inside =
    let here = entry_at n entries i a at inside in record {
      inside = here.within.below;
      fits = fits_width _ here.within.fits;
      product = subst (λ (x : ℤ). unsigned_abs (w *ℤ x) < 2 ^ 62) here.whole
          (products (get_or entries i no_entry).column);
      small = subst (λ (x : ℤ). unsigned_abs x < 2 ^ 63) here.whole
          (small (get_or entries i no_entry).column);
    }

pub loop-entry-init : goal.loop-entry-init
loop-entry-init c = subtracted_start _ _ c.args.row.now c.args.entries.now c.args.touched.now
    c.requires.sparse c.requires.support

pub overflow_cast-row : goal.overflow_cast-row
overflow_cast-row c =
    let e = read c.args.factor _ c.args.entries.now c.loop-entry.entry-index _ c.requires.kept
    c.requires.entries c.loop-entry.invariant.at (omega arith) in
    (code_product c.args.factor _ c.ranges.factor e.fits e.product e.small).entry

pub overflow_mul-row : goal.overflow_mul-row
overflow_mul-row c =
    let e = read c.args.factor _ c.args.entries.now c.loop-entry.entry-index _ c.requires.kept
    c.requires.entries c.loop-entry.invariant.at (omega arith) in
    (code_product c.args.factor _ c.ranges.factor e.fits e.product e.small).product

pub overflow_sub-row : goal.overflow_sub-row
overflow_sub-row c =
    let e = read c.args.factor _ c.args.entries.now c.loop-entry.entry-index _ c.requires.kept
    c.requires.entries c.loop-entry.invariant.at (omega arith) in
    let old = old_at _ _ c.args.row.now c.args.entries.now c.loop-entry.touched c.loop-entry.row
    c.loop-entry.entry-index c.loop-entry.invariant
    (omega arith) c.requires.row in
    (code_subtraction (get_or c.loop-entry.row
    (get_or c.args.entries.now c.loop-entry.entry-index no_entry).column (pos 0)) c.args.factor
    (get_or c.args.entries.now c.loop-entry.entry-index no_entry).factor (search rules)
    c.ranges.factor e.fits
    (subst (λ (x : ℤ). unsigned_abs x < 2 ^ 62) (sym old.same) (c.requires.row _)) e.product
    e.small).fits

pub loop-entry-preserved : goal.loop-entry-preserved
loop-entry-preserved c =
    let w = to_z-of_z w64 c.args.factor c.ranges.factor in
    let e = read c.args.factor _ c.args.entries.now c.loop-entry.entry-index _ c.requires.kept
    c.requires.entries c.loop-entry.invariant.at (omega arith) in
    let inside = e.inside in
    let old = old_at _ _ c.args.row.now c.args.entries.now c.loop-entry.touched c.loop-entry.row
    c.loop-entry.entry-index c.loop-entry.invariant
    (omega arith) c.requires.row in
    let here = code_subtraction (get_or c.loop-entry.row
    (get_or c.args.entries.now c.loop-entry.entry-index no_entry).column (pos 0)) c.args.factor
    (get_or c.args.entries.now c.loop-entry.entry-index no_entry).factor (search rules)
    c.ranges.factor e.fits
    (subst (λ (x : ℤ). unsigned_abs x < 2 ^ 62) (sym old.same) (c.requires.row _)) e.product
    e.small in
    read_subtracted _ _ _ _ _ _ _ _ w
    (subtracted_more c.args.factor _ c.args.row.now c.args.entries.now c.loop-entry.touched _
    c.loop-entry.row c.loop-entry.entry-index _
    (simp w at c.loop-entry.invariant) (omega arith) c.requires.row c.loop-entry.auto.row here.value
    here.narrow
    (support_set c.loop-entry.touched _ c.loop-entry.row _ _ c.loop-entry.invariant.support
    (omega arith)
    c.insert_column.auto.parts c.insert_column.ensures))

pub returns-clause-value : goal.returns-clause-value
returns-clause-value c =
    let w = to_z-of_z w64 c.args.factor c.ranges.factor in
    subtracted_end c.args.factor _ c.args.row.now c.args.entries.now c.loop-entry.touched
    c.loop-entry.row c.loop-entry.entry-index
    (simp w at c.loop-entry.invariant) (omega arith) c.requires.row c.loop-entry.auto.row refl

pub returns-clause-support : goal.returns-clause-support
returns-clause-support c = c.loop-entry.invariant.support
