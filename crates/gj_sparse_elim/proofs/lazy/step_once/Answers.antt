use Rattle.std.proofs.Common.{rules, ◌≡◌, ◌≢◌, ℕ, ℤ, pos, ◌<◌, ◌^◌, ◌<ℤ◌, ◌*ℤ◌, List, length, get_or, unsigned_abs, sym, ap, ap₂, subst, ◌∙◌, arith}
use Rattle.std.proofs.lemmas.Int.{ints, to_z-of_z}
use mir.Syntax.{w64}
use Rattle.gj_shape.specs.Elimination.{at_column, scaled, differences}
use Rattle.gj_theory.proofs.DividedRows.{scaled_one}
use Rattle.gj_theory.proofs.Entries.{at_scaled}
use Rattle.gj_theory.proofs.WideNumbers.{fits_width}
use Rattle.gj_elim.specs.Lazy.{AreLazyFactors, IsExtent}
use Rattle.gj_elim.proofs.LazySteps.{lazy_step}
use Rattle.gj_elim.proofs.LazyRows.{have_room, row_products, kept_products, are_narrow, extent_behind, factors_read, small_entry, IsSmallEntry}
use Rattle.gj_sparse_elim.specs.declared.entry.Entry.{Entry}
use Rattle.gj_sparse_elim.specs.Sparse.{AreSparse, dense}
use Rattle.gj_sparse_elim.proofs.SparseRows.{no_entry, IsFirstEntry, first_entry, at_start, entry_at, length-dense}
use Rattle.gj_sparse_elim.proofs.lazy.step_once.Goals as goal

-- the first entry is the pivot, and small
record IsPivotRead (n c : ℕ) (kept : List Entry) : Type 0 where
  first : IsFirstEntry n c kept
  fits : IsSmallEntry (get_or kept 0 no_entry).factor

not_zero : (x : ℤ) → pos 0 <ℤ x → x ≢ pos 0
not_zero x positive e = let low : pos 0 <ℤ pos 0 = subst (λ (z : ℤ). pos 0 <ℤ z) e
    positive in absurd (omega (arith, ints))

pivot_read : (n c bound : ℕ) (kept : List Entry) → AreSparse n kept → c < n →
    ((k : ℕ) → k < c → at_column (dense n kept) k ≡ pos 0) →
    pos 0 <ℤ at_column (dense n kept) c → IsExtent bound n (dense n kept) → bound < 2 ^ 62 →
    IsPivotRead n c kept
pivot_read n c bound kept sparse within zeros positive extent low =
    let first = first_entry n c kept sparse within zeros
    (not_zero (at_column (dense n kept) c) positive) in
    let small = extent.small (omega arith) c in
    let here = entry_at n kept 0 0 (at_start n kept sparse) first.some in record {
      first = first;
      fits = small_entry (get_or kept 0 no_entry).factor (fits_width _ here.within.fits)
          (subst (λ (x : ℤ). unsigned_abs x < 2 ^ 63) (sym first.factor) (omega arith));
    }

pub bounds-kept-0 : goal.bounds-kept-0
bounds-kept-0 c =
    (pivot_read _ c.args.column c.args.kept_bound c.args.kept.now c.requires.sparse
    c.requires.within c.requires.kept_zero c.requires.positive
    c.requires.kept_extent (omega arith)).first.some

pub overflow_cast-kept : goal.overflow_cast-kept
overflow_cast-kept c =
    (pivot_read _ c.args.column c.args.kept_bound c.args.kept.now c.requires.sparse
    c.requires.within c.requires.kept_zero c.requires.positive
    c.requires.kept_extent (omega arith)).fits.fits

pub factors_of-factors-requires : goal.factors_of-factors-requires
factors_of-factors-requires c =
    let pivot = pivot_read _ c.args.column c.args.kept_bound c.args.kept.now c.requires.sparse
    c.requires.within c.requires.kept_zero
    c.requires.positive c.requires.kept_extent (omega arith) in
    record {
      positive = subst (λ (z : ℤ). pos 0 <ℤ z) (sym (pivot.fits.read ∙ pivot.first.factor))
          c.requires.positive;
    }

pub multiply-requires-clause-small : goal.multiply-requires-clause-small
multiply-requires-clause-small c k =
    let u = to_z-of_z w64 c.factors_of-factors.result.row (search rules) in
    subst (λ (v : ℤ). unsigned_abs (v *ℤ at_column c.args.row.now k) < 2 ^ 62) (sym u)
    (row_products _ _ _ _ _ _ _ _ _ _
    (have_room c.requires.extent c.requires.kept_extent c.requires.bound (omega arith)
    (c.in-Some.ensures _)) k)

-- ---- what is subtracted from the multiplied row

multiplied : (v u : ℤ) (row next : List ℤ) (k : ℕ) → v ≡ u → next ≡ scaled v row →
    unsigned_abs (u *ℤ at_column row k) < 2 ^ 62 →
    unsigned_abs (at_column next k) < 2 ^ 62
multiplied v u row next k read is low =
    subst (λ (x : ℤ). unsigned_abs x < 2 ^ 62)
    (sym (ap (λ xs. at_column xs k) is ∙ at_scaled v row k ∙ ap (λ y. y *ℤ at_column row k) read))
    low

pub subtract-requires-clause-sparse : goal.subtract-requires-clause-sparse
subtract-requires-clause-sparse c = subst (λ (n : ℕ). AreSparse n c.args.kept.now)
    (sym c.multiply.auto.row) c.requires.sparse

pub subtract-requires-clause-row : goal.subtract-requires-clause-row
subtract-requires-clause-row c k =
    multiplied _ c.factors_of-factors.result.row c.args.row.now c.multiply.new.row k
    (to_z-of_z w64 c.factors_of-factors.result.row (search rules)) c.multiply.ensures.value
    (row_products _ _ _ _ _ _ _ _ _ _
    (have_room c.requires.extent c.requires.kept_extent c.requires.bound (omega arith)
    (c.in-Some.ensures _)) k)

pub subtract-requires-clause-kept : goal.subtract-requires-clause-kept
subtract-requires-clause-kept c k =
    let w = to_z-of_z w64 c.factors_of-factors.result.kept (search rules) in
    subst (λ (v : ℤ). unsigned_abs
    (v *ℤ at_column (dense (length c.multiply.new.row) c.args.kept.now) k) < 2 ^ 62) (sym w)
    (subst (λ (n : ℕ). unsigned_abs
    (c.factors_of-factors.result.kept *ℤ at_column (dense n c.args.kept.now) k) < 2 ^ 62)
    (sym c.multiply.auto.row)
    (kept_products _ _ _ _ _ _ _ _ _ _
    (have_room c.requires.extent c.requires.kept_extent c.requires.bound (omega arith)
    (c.in-Some.ensures _)) k))

pub subtract-requires-clause-entries : goal.subtract-requires-clause-entries
subtract-requires-clause-entries c k =
    subst (λ (n : ℕ). unsigned_abs (at_column (dense n c.args.kept.now) k) < 2 ^ 63)
    (sym c.multiply.auto.row)
    (let small = c.requires.kept_extent.small (omega arith) k in omega arith)

-- the row after the step
stepped : (n m : ℕ) (v u x w : ℤ) (row next last : List ℤ) (kept : List Entry) → m ≡ n → v ≡ u →
    x ≡ w → next ≡ scaled v row →
    last ≡ differences (scaled (pos 1) next) (scaled x (dense m kept)) →
    last ≡ differences (scaled u row) (scaled w (dense n kept))
stepped n m v u x w row next last kept same read read' next_is last_is =
    last_is ∙ ap₂ (λ xs l. differences xs (scaled x (dense l kept))) (scaled_one next ∙ next_is)
    same
    ∙ ap₂ (λ y z. differences (scaled y row) (scaled z (dense n kept))) read read'

pub returns-in-Some-clause-step : goal.returns-in-Some-clause-step
returns-in-Some-clause-step c other multiple =
    let pivot = pivot_read _ c.args.column c.args.kept_bound c.args.kept.now c.requires.sparse
    c.requires.within c.requires.kept_zero
    c.requires.positive c.requires.kept_extent (omega arith) in
    let here = entry_at _ c.args.kept.now 0 0 (at_start _ c.args.kept.now c.requires.sparse)
    pivot.first.some in
    lazy_step (dense (length c.args.row.now) c.args.kept.now) other c.args.row.now
    c.subtract.new.row c.args.column
    c.factors_of-factors.result.row c.factors_of-factors.result.kept multiple
    (length-dense (length c.args.row.now) c.args.kept.now)
    c.requires.positive
    (subst (λ (x : ℤ). AreLazyFactors x (at_column c.args.row.now c.args.column)
    c.factors_of-factors.result.row c.factors_of-factors.result.kept)
    pivot.first.factor
    (factors_read (get_or c.args.kept.now 0 no_entry).factor
    (get_or c.args.row.now c.args.column (pos 0)) _ _ (fits_width _ here.within.fits) (search rules)
    (subst (λ (x : ℤ). unsigned_abs x < 2 ^ 63) (sym pivot.first.factor)
    (let small = c.requires.kept_extent.small (omega arith) c.args.column in omega arith))
    c.factors_of-factors.ensures))
    (are_narrow _ _ _ _ _ _ _ _ _ _
    (have_room c.requires.extent c.requires.kept_extent c.requires.bound (omega arith)
    (c.in-Some.ensures _)))
    (stepped _ _ _ c.factors_of-factors.result.row _ c.factors_of-factors.result.kept c.args.row.now
    c.multiply.new.row c.subtract.new.row
    c.args.kept.now c.multiply.auto.row
    (to_z-of_z w64 c.factors_of-factors.result.row (search rules))
    (to_z-of_z w64 c.factors_of-factors.result.kept (search rules)) c.multiply.ensures.value
    c.subtract.ensures.value)

pub returns-in-Some-clause-extent : goal.returns-in-Some-clause-extent
returns-in-Some-clause-extent c =
    let room = have_room c.requires.extent c.requires.kept_extent c.requires.bound (omega arith)
    (c.in-Some.ensures (length c.args.row.now)) in
    let extent = extent_behind _ _ c.args.row.now (dense (length c.args.row.now) c.args.kept.now)
    c.subtract.new.row _ _ _ _ _ _ room
    (length-dense (length c.args.row.now) c.args.kept.now)
    (stepped _ _ _ c.factors_of-factors.result.row _ c.factors_of-factors.result.kept c.args.row.now
    c.multiply.new.row c.subtract.new.row
    c.args.kept.now c.multiply.auto.row
    (to_z-of_z w64 c.factors_of-factors.result.row (search rules))
    (to_z-of_z w64 c.factors_of-factors.result.kept (search rules)) c.multiply.ensures.value
    c.subtract.ensures.value) in
    subst (λ (n : ℕ). IsExtent c.in-Some.next n c.subtract.new.row)
    (sym (c.subtract.auto.row ∙ c.multiply.auto.row)) extent

pub returns-in-Some-clause-bound : goal.returns-in-Some-clause-bound
returns-in-Some-clause-bound c = let room = c.in-Some.ensures 0 in let is =
    room.bound in let first = room.row in let second = room.kept in omega arith
