use Rattle.std.proofs.Common.{◌≡◌, ℕ, List, [], ◌∷◌, ◌++◌, Option, Some, refl, ap, sym, subst, subst₂, length, map, ◌∙◌}
use Rattle.gj_shape.specs.Elimination.{KeptRow, Insertion, Passes, whole_numbers, inserted}
use Rattle.gj_theory.specs.TriangularRows.{AreTriangular}
use Rattle.std.specs.Prelude.{All}
use Rattle.gj_elim.specs.Progress.{kept_at}
use Rattle.gj_elim.specs.declared.log.Inserted.TheVariants.{Pivot, Nothing}
use Rattle.gj_elim.proofs.Keeping.{IsInserted, nothing_inserted, row_inserted, triangular_from, solutions_from, same_error}
use Rattle.gj_sparse_elim.specs.Basis.{data_of}
use Rattle.gj_sparse_elim.specs.Columns.{IsSupport}
use Rattle.gj_sparse_elim.specs.Left.{IsKeptOf, IsLeftAs}
use Rattle.gj_sparse_elim.specs.declared.left.Left.{Left}
use Rattle.gj_sparse_elim.specs.Rows.{sparse_rows, AreKeptSparse}
use Rattle.gj_sparse_elim.specs.Seen.{IsSeen}
use Rattle.gj_sparse_elim.specs.Sparse.{dense}
use Rattle.gj_sparse_elim.proofs.SparseRows.{length-dense}
use Rattle.gj_sparse_elim.proofs.LeftRows.{nothing_left, something_left}
use Rattle.gj_sparse_elim.proofs.SeenRows.{seen_behind}
use Rattle.gj_sparse_elim.proofs.KeptEntries.{lines_too, insertion_sparse, given_columns}
use Rattle.gj_elim.proofs.KeptTables.{held}
use Rattle.gj_sparse_elim.proofs.basis.SparseBasis.insert_new.Goals as goal

pub returns-in_err-left-clause-wide : goal.returns-in_err-left-clause-wide
returns-in_err-left-clause-wide c =
    let D = data_of c.self.inside in
    let n_is : length c.as_mut_slice.result.now ≡ D.columns = ap length c.as_mut_slice.ensures.value
    ∙ c.self.invariant.columns in
    let whole = insertion_sparse _ D c.args.self.now c.self.inside.kept c.args.row.now n_is
    c.self.view_is
    refl in
    λ e. subst (λ (i : Insertion). Passes i.marked)
    (whole ∙ ap (λ b. inserted b.columns b.kept (dense c.args.self.now.columns c.args.row.now))
    c.self.view_is)
    (c.in_err-left.ensures.wide (same_error c.from_residual.result c.in_err-left.field-0.0 _
    c.from_residual.ensures.0 c.from_residual.ensures.1 e))

pub keep-requires-clause-kept : goal.keep-requires-clause-kept
keep-requires-clause-kept c =
    subst (λ (n : ℕ). AreKeptSparse n c.self.inside.kept) (sym
    c.self.invariant.kept.places.columns_are)
    c.self.invariant.kept

pub invariant_of-self-in_err-keep-in-Some : goal.invariant_of-self-in_err-keep-in-Some
invariant_of-self-in_err-keep-in-Some c =
    let D = data_of c.self.inside in
    let m_is : length c.self.inside.kept.places.items
    ≡ D.columns = c.self.invariant.kept.places.columns_are in
    let small = held D.columns c.self.inside.small c.as_mut_slice-3.result.now
    c.reduce_row.new.small c.self.inside.small.ok.0
    c.self.invariant.small_columns c.as_mut_slice-3.ensures.value c.reduce_row.auto.small in
    let touched = held _ c.self.inside.touched c.as_mut_slice-4.result.now c.reduce_row.new.touched
    c.self.inside.touched.ok.0
    refl c.as_mut_slice-4.ensures.value c.reduce_row.auto.touched in
    record {
      kept = subst (λ (n : ℕ). AreKeptSparse n c.keep.new.kept) m_is
          c.in_err-keep-in-Some.ensures.unchanged;
      columns = (held D.columns c.self.inside.row c.as_mut_slice.result.now
          c.reduce_row.new.row c.self.inside.row.ok.0 c.self.invariant.columns
          c.as_mut_slice.ensures.value c.reduce_row.auto.row).columns;
      kept_columns = (held D.columns c.self.inside.kept_row c.as_mut_slice-2.result.now
          c.reduce_row.new.kept_row c.self.inside.kept_row.ok.0
          c.self.invariant.kept_columns c.as_mut_slice-2.ensures.value
          c.reduce_row.auto.kept_row).columns;
      small_columns = small.columns;
      support = subst₂ IsSupport (sym touched.is) (sym small.is) c.in_ok-left.ensures.support;
      seen = subst (λ (ks : List KeptRow). All (IsSeen D.columns ks) c.self.inside.seen.items)
          (sym (c.in_err-keep-in-Some.ensures.same D.columns)) c.self.invariant.seen;
      some = c.self.invariant.some;
    }

-- what is left is kept
row_told : (c : goal.After-self-in-Some-1) → IsInserted whole_numbers (data_of c.self.inside)
    c.args.self.now (dense c.args.self.now.columns c.args.row.now)
    (sparse_rows c.self.inside.columns c.keep.new.kept) (Pivot c.in-Some.left.column)
row_told c =
    let D = data_of c.self.inside in
    let n_is : length c.as_mut_slice.result.now ≡ D.columns = ap length c.as_mut_slice.ensures.value
    ∙ c.self.invariant.columns in
    let whole = insertion_sparse _ D c.args.self.now c.self.inside.kept c.args.row.now n_is
    c.self.view_is
    refl in
    let left = subst₂ (λ (n : ℕ) (i : Insertion).
    IsLeftAs n i c.reduce_row.new.reduce.items c.in_ok-left.left) n_is whole
    c.in_ok-left.ensures.left in
    let m_is : length c.self.inside.kept.places.items
    ≡ D.columns = c.self.invariant.kept.places.columns_are in
    let entries = subst (λ (m : ℕ). map (dense m) c.keep.new.kept.rows.items ≡ map (dense m)
    c.self.inside.kept.rows.items
    ++ dense m c.in-Some.left.entries ∷ []) m_is
    c.in_ok-keep-in-Some.ensures.entries in
    let there = something_left left.row left.left c.in-Some.left
    (subst (λ (o : Option Left). IsKeptOf left.row left.left o) c.in-Some.is left.kept) in
    row_inserted whole_numbers D c.args.self.now
    (dense c.args.self.now.columns c.args.row.now) left.row
    c.reduce_row.new.reduce.items left.left c.self.inside.kept.log.items c.keep.new.kept.log.items
    (map (dense D.columns) c.self.inside.kept.rows.items) (map (dense D.columns)
    c.keep.new.kept.rows.items)
    record {
      number = c.self.inside.inserted;
      reduce = c.as_slice.result.now;
      pivot = c.in-Some.left.column;
    }
    (dense D.columns c.in-Some.left.entries) c.self.view_is left.left_is
    there.0 refl (lines_too D.columns c.self.inside.kept.log.items c.self.inside.kept.rows.items
    c.self.invariant.kept.lines)
    c.in_ok-keep-in-Some.ensures.line entries refl
    c.as_slice.ensures.value
    (ap Some (sym (ap (λ n. dense n c.in-Some.left.entries) (sym left.columns) ∙ there.1.value)))

pub invariant_of-self-in-Some : goal.invariant_of-self-in-Some
invariant_of-self-in-Some c =
    let D = data_of c.self.inside in
    let m_is = c.self.invariant.kept.places.columns_are in
    let told = row_told c in
    let small = held D.columns c.self.inside.small c.as_mut_slice-3.result.now
    c.reduce_row.new.small c.self.inside.small.ok.0
    c.self.invariant.small_columns c.as_mut_slice-3.ensures.value c.reduce_row.auto.small in
    let touched = held _ c.self.inside.touched c.as_mut_slice-4.result.now c.reduce_row.new.touched
    c.self.inside.touched.ok.0
    refl c.as_mut_slice-4.ensures.value c.reduce_row.auto.touched in
    record {
      kept = subst (λ (n : ℕ). AreKeptSparse n c.keep.new.kept) m_is
          (c.in_ok-keep-in-Some.ensures.kept
          (subst (λ (n : ℕ). AreTriangular n (sparse_rows n c.keep.new.kept)) (sym m_is)
          (triangular_from D (dense c.args.self.now.columns c.args.row.now) _
          c.self.invariant.kept.triangular
          (given_columns D c.args.self.now c.args.row.now c.self.view_is) told.rows)));
      columns = (held D.columns c.self.inside.row c.as_mut_slice.result.now
          c.reduce_row.new.row c.self.inside.row.ok.0 c.self.invariant.columns
          c.as_mut_slice.ensures.value c.reduce_row.auto.row).columns;
      kept_columns = (held D.columns c.self.inside.kept_row c.as_mut_slice-2.result.now
          c.reduce_row.new.kept_row c.self.inside.kept_row.ok.0
          c.self.invariant.kept_columns c.as_mut_slice-2.ensures.value
          c.reduce_row.auto.kept_row).columns;
      small_columns = small.columns;
      support = subst₂ IsSupport (sym touched.is) (sym small.is) c.in_ok-left.ensures.support;
      seen = subst (λ (ks : List KeptRow). All (IsSeen D.columns ks) c.self.inside.seen.items)
          (sym told.rows.kept_is)
          (seen_behind D.columns D.kept D.inserted _ _ c.self.inside.seen.items
          c.self.invariant.seen);
      some = c.self.invariant.some;
    }

-- nothing that is left is kept
nothing_told : (c : goal.After-self-in-None-1) → IsInserted whole_numbers (data_of c.self.inside)
    c.args.self.now (dense c.args.self.now.columns c.args.row.now)
    (sparse_rows c.self.inside.columns c.self.inside.kept) Nothing
nothing_told c =
    let D = data_of c.self.inside in
    let n_is : length c.as_mut_slice.result.now ≡ D.columns = ap length c.as_mut_slice.ensures.value
    ∙ c.self.invariant.columns in
    let whole = insertion_sparse _ D c.args.self.now c.self.inside.kept c.args.row.now n_is
    c.self.view_is
    refl in
    let left = subst₂ (λ (n : ℕ) (i : Insertion).
    IsLeftAs n i c.reduce_row.new.reduce.items c.in_ok-left.left) n_is whole
    c.in_ok-left.ensures.left in
    nothing_inserted whole_numbers D c.args.self.now
    (dense c.args.self.now.columns c.args.row.now) left.row
    c.reduce_row.new.reduce.items left.left
    c.self.view_is left.left_is (ap (λ o. kept_at whole_numbers o left.row)
    (nothing_left left.row left.left
    (subst (λ (o : Option Left). IsKeptOf left.row left.left o) c.in-None.is left.kept)))

pub returns-in-None-clause-kept : goal.returns-in-None-clause-kept
returns-in-None-clause-kept c = (nothing_told c).kept

pub returns-in-None-clause-solutions : goal.returns-in-None-clause-solutions
returns-in-None-clause-solutions c w =
    solutions_from (data_of c.self.inside) c.args.self.now
    (dense c.args.self.now.columns c.args.row.now) w _
    c.self.view_is c.self.invariant.kept.triangular
    (length-dense c.args.self.now.columns c.args.row.now) (nothing_told c).rows

pub returns-in_ok-keep-in-Some-clause-kept : goal.returns-in_ok-keep-in-Some-clause-kept
returns-in_ok-keep-in-Some-clause-kept c = (row_told c).kept

pub returns-in_ok-keep-in-Some-clause-solutions : goal.returns-in_ok-keep-in-Some-clause-solutions
returns-in_ok-keep-in-Some-clause-solutions c w =
    solutions_from (data_of c.self.inside) c.args.self.now
    (dense c.args.self.now.columns c.args.row.now) w _
    c.self.view_is c.self.invariant.kept.triangular
    (length-dense c.args.self.now.columns c.args.row.now) (row_told c).rows

pub returns-in_ok-keep-in-Some-clause-triangular :
    goal.returns-in_ok-keep-in-Some-clause-triangular
returns-in_ok-keep-in-Some-clause-triangular c =
    triangular_from (data_of c.self.inside) (dense c.args.self.now.columns c.args.row.now) _
    c.self.invariant.kept.triangular
    (given_columns (data_of c.self.inside) c.args.self.now c.args.row.now c.self.view_is)
    (row_told c).rows
