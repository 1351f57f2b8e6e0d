use Rattle.std.proofs.Common.{◌≡◌, ℕ, ◌<◌, ◌^◌, ℤ, List, length, get_or, unsigned_abs, sym, ap, subst, ◌∙◌, arith}
use Rattle.gj_shape.specs.Elimination.{at_column}
use Rattle.gj_theory.proofs.WideNumbers.{fits_width}
use Rattle.gj_elim.proofs.LazyRows.{IsSmallEntry, small_entry}
use Rattle.gj_sparse_elim.specs.declared.entry.Entry.{Entry}
use Rattle.gj_sparse_elim.specs.Sparse.{AreSparse, dense}
use Rattle.gj_sparse_elim.proofs.ColumnSets.{support_set}
use Rattle.gj_sparse_elim.proofs.SparseRows.{no_entry, IsAtEntry, entry_at, spread_start, spread_more, spread_end}
use Rattle.gj_sparse_elim.proofs.lazy.load.Goals as goal

small_here : (n m : ℕ) (entries : List Entry) (i a : ℕ) → n ≡ m →
    ((k : ℕ) → unsigned_abs (at_column (dense m entries) k) < 2 ^ 63) →
    IsAtEntry n entries i a → i < length entries → IsSmallEntry (get_or entries i no_entry).factor
small_here n m entries i a same small at inside =
    let here = entry_at n entries i a at inside in
    small_entry (get_or entries i no_entry).factor (fits_width _ here.within.fits)
    (subst (λ (x : ℤ). unsigned_abs x < 2 ^ 63) here.whole
    (subst (λ (l : ℕ). unsigned_abs (at_column (dense l entries) (get_or entries i no_entry).column)
    < 2 ^ 63) (sym same)
    (small (get_or entries i no_entry).column)))

pub loop-entry-init : goal.loop-entry-init
loop-entry-init c = record {
  spread = spread_start (length c.clear.new.row) c.args.entries.now c.clear.new.row
      (subst (λ (n : ℕ). AreSparse n c.args.entries.now) (sym c.clear.auto.row) c.requires.sparse)
      c.clear.ensures.zero;
  support = c.clear.ensures.support;
}

pub overflow_cast-row : goal.overflow_cast-row
overflow_cast-row c =
    (small_here _ _ c.args.entries.now c.loop-entry.entry-index _ c.clear.auto.row c.requires.small
    c.loop-entry.invariant.spread.at
    (omega arith)).fits

pub loop-entry-preserved : goal.loop-entry-preserved
loop-entry-preserved c =
    let here = entry_at _ c.args.entries.now c.loop-entry.entry-index _
    c.loop-entry.invariant.spread.at (omega arith) in
    let below = here.within.below in
    record {
      spread = spread_more _ c.args.entries.now c.loop-entry.row c.loop-entry.entry-index _
          c.loop-entry.invariant.spread (omega arith)
          (omega arith)
          (small_here _ _ c.args.entries.now c.loop-entry.entry-index _ c.clear.auto.row
          c.requires.small c.loop-entry.invariant.spread.at
          (omega arith)).read;
      support = support_set c.loop-entry.touched _ c.loop-entry.row _ _
          c.loop-entry.invariant.support (omega arith)
          c.insert_column.auto.parts c.insert_column.ensures;
    }

pub returns-clause-value : goal.returns-clause-value
returns-clause-value c =
    spread_end _ c.args.entries.now c.loop-entry.row c.loop-entry.entry-index
    c.loop-entry.invariant.spread (omega arith) (omega arith)
    ∙ ap (λ n. dense n c.args.entries.now) c.clear.auto.row
