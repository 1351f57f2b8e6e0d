use Rattle.std.proofs.Common.{rules, ◌≡◌, ℕ, ℤ, ◌<◌, ◌<ℤ◌, List, length, pos, get_or, [], ◌∷◌, ◌++◌, refl, sym, ap, subst, ◌∙◌, arith}
use Rattle.gj_shape.specs.Elimination.{inserted, at_column}
use Rattle.gj_elim.specs.Lazy.{IsMultipleRow, IsLazyStep, IsExactly, IsExtent}
use Rattle.gj_elim.proofs.LazyProgress.{lazy_start, lazy_zero, lazy_more, lazy_kept, lazy_exact, lazy_fits, zero_small, some_small}
use Rattle.gj_sparse_elim.specs.Sparse.{AreSparse, dense}
use Rattle.gj_sparse_elim.specs.Rows.{sparse_rows}
use Rattle.gj_sparse_elim.proofs.ColumnSets.{next_column}
use Rattle.gj_sparse_elim.proofs.KeptEntries.{sparse_pivot, bound_read, none_there, free_there, lazy_to, lazy_done}
use Rattle.gj_sparse_elim.proofs.reduce.reduce_lazily.Goals as goal
use Rattle.gj_sparse_elim.proofs.reduce.reduce_lazily.Goals.{then-row-column-ne0+in-Some-index+in-Some-after+in_ok-reserve-in-Some-after, else-row-column-ne0}

pub loop-column-init : goal.loop-column-init
loop-column-init c = record {
  reached = lazy_start (sparse_rows (length c.args.row.now) c.args.kept.now)
      (length c.args.row.now) c.args.row.now c.args.reduce.now.items c.args.first_bound
      (length c.args.row.now) refl c.requires.empty
      c.requires.extent c.requires.bound;
  support = c.requires.support;
}

pub returns-in_default-index-clause-reached : goal.returns-in_default-index-clause-reached
returns-in_default-index-clause-reached c =
    let next = next_column c.loop-column.touched c.loop-column.row c.loop-column.next
    c.in-Some.column c.loop-column.invariant.support
    c.in-Some.ensures in
    let inside = next.inside in
    lazy_kept (inserted (length c.args.row.now)
    (sparse_rows (length c.args.row.now) c.args.kept.now) c.args.row.now)
    (sparse_rows (length c.args.row.now) c.args.kept.now) (length c.args.row.now)
    c.in-Some.column c.loop-column.row c.loop-column.reduce.items c.loop-column.is_stepped
    c.loop-column.bound (length c.args.row.now)
    (lazy_to (inserted (length c.args.row.now)
    (sparse_rows (length c.args.row.now) c.args.kept.now) c.args.row.now)
    (sparse_rows (length c.args.row.now) c.args.kept.now) (length c.args.row.now)
    c.loop-column.next c.in-Some.column c.loop-column.row c.loop-column.reduce.items
    c.loop-column.is_stepped
    c.loop-column.bound (length c.args.row.now) c.loop-column.invariant.reached next) (omega arith)
    (some_small (get_or c.loop-column.row c.in-Some.column (pos 0)) c.if-row-column-ne0.true)
    (none_there (length c.args.row.now) c.args.kept.now c.in-Some.column c.index.result.now
    c.requires.kept (omega arith) c.index.ensures c.in_default-index.is)

pub returns-in_default-index-clause-within : goal.returns-in_default-index-clause-within
returns-in_default-index-clause-within c =
    let next = next_column c.loop-column.touched c.loop-column.row c.loop-column.next
    c.in-Some.column c.loop-column.invariant.support
    c.in-Some.ensures in
    let inside = next.inside in
    let small = c.loop-column.invariant.reached.extent.small c.loop-column.invariant.reached.bounded
    in
    let bounded = c.loop-column.invariant.reached.bounded in (
      record {
        zero_before = (lazy_to (inserted (length c.args.row.now)
            (sparse_rows (length c.args.row.now) c.args.kept.now) c.args.row.now)
            (sparse_rows (length c.args.row.now) c.args.kept.now)
            (length c.args.row.now) c.loop-column.next c.in-Some.column c.loop-column.row
            c.loop-column.reduce.items c.loop-column.is_stepped
            c.loop-column.bound (length c.args.row.now) c.loop-column.invariant.reached
            next).zero_before;
        small = λ k. let low = small k in omega arith;
      },
      free_there (length c.args.row.now) c.args.kept.now c.in-Some.column c.index.result.now
          c.requires.kept (omega arith) c.index.ensures c.in_default-index.is,
    )

pub step-after-requires-clause-sparse : goal.step-after-requires-clause-sparse
step-after-requires-clause-sparse c =
    let next = next_column c.loop-column.touched c.loop-column.row c.loop-column.next
    c.in-Some.column c.loop-column.invariant.support
    c.in-Some.ensures in
    let inside = next.inside in
    let e = sparse_pivot (length c.args.row.now) c.args.kept.now c.in-Some.column
    c.in-Some-index.place c.index.result.now _ c.as_slice.result.now c.requires.kept
    (omega arith) c.index.ensures c.in-Some-index.is c.index-then-row-column-ne0.ensures
    c.as_slice.ensures in
    subst (λ (n : ℕ). AreSparse n c.as_slice.result.now) (sym c.loop-column.auto.row) e.sparse

pub step-after-requires-clause-kept_extent : goal.step-after-requires-clause-kept_extent
step-after-requires-clause-kept_extent c =
    let next = next_column c.loop-column.touched c.loop-column.row c.loop-column.next
    c.in-Some.column c.loop-column.invariant.support
    c.in-Some.ensures in
    let inside = next.inside in
    let e = sparse_pivot (length c.args.row.now) c.args.kept.now c.in-Some.column
    c.in-Some-index.place c.index.result.now _ c.as_slice.result.now c.requires.kept
    (omega arith) c.index.ensures c.in-Some-index.is c.index-then-row-column-ne0.ensures
    c.as_slice.ensures in
    subst (λ (n : ℕ). IsExtent c.index-then-row-column-ne0-2.result.now n
    (dense n c.as_slice.result.now)) (sym c.loop-column.auto.row)
    (bound_read (length c.args.row.now) c.in-Some-index.place _ c.args.kept.now
    c.as_slice.result.now c.requires.kept e.inside c.index-then-row-column-ne0-2.ensures e.is)

pub step-after-requires-clause-extent : goal.step-after-requires-clause-extent
step-after-requires-clause-extent c =
    subst (λ (n : ℕ). IsExtent c.loop-column.bound n c.loop-column.row) (sym c.loop-column.auto.row)
    c.loop-column.invariant.reached.extent

pub step-after-requires-clause-kept_zero : goal.step-after-requires-clause-kept_zero
step-after-requires-clause-kept_zero c =
    let next = next_column c.loop-column.touched c.loop-column.row c.loop-column.next
    c.in-Some.column c.loop-column.invariant.support
    c.in-Some.ensures in
    let inside = next.inside in
    let e = sparse_pivot (length c.args.row.now) c.args.kept.now c.in-Some.column
    c.in-Some-index.place c.index.result.now _ c.as_slice.result.now c.requires.kept
    (omega arith) c.index.ensures c.in-Some-index.is c.index-then-row-column-ne0.ensures
    c.as_slice.ensures in
    subst (λ (n : ℕ). (k : ℕ) → k < c.in-Some.column →
    at_column (dense n c.as_slice.result.now) k ≡ pos 0) (sym c.loop-column.auto.row)
    e.pivot.zero_before

pub step-after-requires-clause-row_zero : goal.step-after-requires-clause-row_zero
step-after-requires-clause-row_zero c =
    let next = next_column c.loop-column.touched c.loop-column.row c.loop-column.next
    c.in-Some.column c.loop-column.invariant.support
    c.in-Some.ensures in
    let inside = next.inside in
    (lazy_to (inserted (length c.args.row.now)
    (sparse_rows (length c.args.row.now) c.args.kept.now) c.args.row.now)
    (sparse_rows (length c.args.row.now) c.args.kept.now) (length c.args.row.now)
    c.loop-column.next c.in-Some.column c.loop-column.row c.loop-column.reduce.items
    c.loop-column.is_stepped
    c.loop-column.bound (length c.args.row.now) c.loop-column.invariant.reached next).zero_before

pub step-after-requires-clause-positive : goal.step-after-requires-clause-positive
step-after-requires-clause-positive c =
    let next = next_column c.loop-column.touched c.loop-column.row c.loop-column.next
    c.in-Some.column c.loop-column.invariant.support
    c.in-Some.ensures in
    let inside = next.inside in
    let e = sparse_pivot (length c.args.row.now) c.args.kept.now c.in-Some.column
    c.in-Some-index.place c.index.result.now _ c.as_slice.result.now c.requires.kept
    (omega arith) c.index.ensures c.in-Some-index.is c.index-then-row-column-ne0.ensures
    c.as_slice.ensures in
    subst (λ (n : ℕ). pos 0 <ℤ at_column (dense n c.as_slice.result.now) c.in-Some.column)
    (sym c.loop-column.auto.row) e.pivot.positive

pub returns-in-None-clause-reached : goal.returns-in-None-clause-reached
returns-in-None-clause-reached c =
    let next = next_column c.loop-column.touched c.loop-column.row c.loop-column.next
    c.in-Some.column c.loop-column.invariant.support
    c.in-Some.ensures in
    let inside = next.inside in
    lazy_exact (inserted (length c.args.row.now)
    (sparse_rows (length c.args.row.now) c.args.kept.now) c.args.row.now)
    (sparse_rows (length c.args.row.now) c.args.kept.now) (length c.args.row.now)
    c.in-Some.column c.loop-column.row c.step-after.new.exact c.loop-column.reduce.items
    c.loop-column.is_stepped
    c.loop-column.bound (length c.args.row.now)
    (lazy_to (inserted (length c.args.row.now)
    (sparse_rows (length c.args.row.now) c.args.kept.now) c.args.row.now)
    (sparse_rows (length c.args.row.now) c.args.kept.now) (length c.args.row.now)
    c.loop-column.next c.in-Some.column c.loop-column.row c.loop-column.reduce.items
    c.loop-column.is_stepped
    c.loop-column.bound (length c.args.row.now) c.loop-column.invariant.reached next)
    (c.in-None.ensures.exact refl)

pub loop-column-preserved : goal.loop-column-preserved
loop-column-preserved c =
    elim c.if-row-column-ne0.branch [
      | then-row-column-ne0+in-Some-index+in-Some-after+in_ok-reserve-in-Some-after w ↦
          let next = next_column c.loop-column.touched c.loop-column.row c.loop-column.next
          c.in-Some.column c.loop-column.invariant.support
          c.in-Some.ensures in
          let inside = next.inside in
          let e = sparse_pivot (length c.args.row.now) c.args.kept.now c.in-Some.column
          w.in-Some-index.place w.index.result.now _ w.as_slice.result.now c.requires.kept
          (omega arith) w.index.ensures w.in-Some-index.is w.index-then-row-column-ne0.ensures
          w.as_slice.ensures in
          let step = subst (λ (n : ℕ). (other : List ℤ) → IsMultipleRow other c.loop-column.row →
          IsExactly c.loop-column.is_stepped other c.loop-column.row →
          IsLazyStep (dense n w.as_slice.result.now) other w.step-after.new.row c.in-Some.column)
          c.loop-column.auto.row w.in-Some-after.ensures.step in
          let extent = subst (λ (n : ℕ). IsExtent w.in-Some-after.least n w.step-after.new.row)
          (w.step-after.auto.row ∙ c.loop-column.auto.row)
          w.in-Some-after.ensures.extent in
          let on = lazy_more (inserted (length c.args.row.now)
          (sparse_rows (length c.args.row.now) c.args.kept.now) c.args.row.now)
          (sparse_rows (length c.args.row.now) c.args.kept.now)
          (length c.args.row.now) c.in-Some.column
          c.loop-column.row w.step-after.new.row
          (dense (length c.args.row.now) w.as_slice.result.now) c.loop-column.reduce.items
          w.push_reserved.new.self.items c.loop-column.is_stepped
          c.loop-column.bound (length c.args.row.now) w.in-Some-after.least (length c.args.row.now)
          (lazy_to (inserted (length c.args.row.now)
          (sparse_rows (length c.args.row.now) c.args.kept.now) c.args.row.now)
          (sparse_rows (length c.args.row.now) c.args.kept.now)
          (length c.args.row.now) c.loop-column.next c.in-Some.column c.loop-column.row
          c.loop-column.reduce.items c.loop-column.is_stepped
          c.loop-column.bound (length c.args.row.now) c.loop-column.invariant.reached next)
          (omega arith)
          (some_small (get_or c.loop-column.row c.in-Some.column (pos 0)) w.if-row-column-ne0.true)
          e.here e.pivot step
          (w.push_reserved.ensures.items
          ∙ ap (λ xs. xs ++ c.in-Some.column ∷ []) w.in_ok-reserve-in-Some-after.ensures.items)
          extent w.in-Some-after.ensures.bound in
          record {
            reached = rw (w.row-is, w.is_stepped-is, w.bound-is, ap (λ v. v.items) w.reduce-is) on;
            support = rw (w.row-is, w.touched-is) w.in-Some-after.ensures.support;
          }
      | else-row-column-ne0 w ↦
          let next = next_column c.loop-column.touched c.loop-column.row c.loop-column.next
          c.in-Some.column c.loop-column.invariant.support
          c.in-Some.ensures in
          let inside = next.inside in
          let none = zero_small (get_or c.loop-column.row c.in-Some.column (pos 0)) (search rules)
          w.if-row-column-ne0.false in
          let on = lazy_zero (inserted (length c.args.row.now)
          (sparse_rows (length c.args.row.now) c.args.kept.now) c.args.row.now)
          (sparse_rows (length c.args.row.now) c.args.kept.now)
          (length c.args.row.now) c.in-Some.column c.loop-column.row c.loop-column.reduce.items
          c.loop-column.is_stepped c.loop-column.bound (length c.args.row.now)
          (lazy_to (inserted (length c.args.row.now)
          (sparse_rows (length c.args.row.now) c.args.kept.now) c.args.row.now)
          (sparse_rows (length c.args.row.now) c.args.kept.now)
          (length c.args.row.now) c.loop-column.next c.in-Some.column c.loop-column.row
          c.loop-column.reduce.items c.loop-column.is_stepped
          c.loop-column.bound (length c.args.row.now) c.loop-column.invariant.reached next)
          (omega arith) none in
          record {
            reached = rw (w.row-is, w.is_stepped-is, w.bound-is, ap (λ v. v.items) w.reduce-is) on;
            support = rw (w.row-is, w.touched-is) c.loop-column.invariant.support;
          }
    ]

pub returns-clause-reached : goal.returns-clause-reached
returns-clause-reached c =
    lazy_done (inserted (length c.args.row.now)
    (sparse_rows (length c.args.row.now) c.args.kept.now) c.args.row.now)
    (sparse_rows (length c.args.row.now) c.args.kept.now) (length c.args.row.now)
    c.loop-column.next c.loop-column.row c.loop-column.reduce.items c.loop-column.is_stepped
    c.loop-column.bound (length c.args.row.now)
    c.loop-column.invariant.reached
    (λ k high. c.loop-column.invariant.support.zero k (c.in_default.ensures k high))

pub returns-clause-within : goal.returns-clause-within
returns-clause-within c =
    lazy_fits c.loop-column.bound _ c.loop-column.row c.loop-column.invariant.reached.extent
    c.loop-column.invariant.reached.bounded
