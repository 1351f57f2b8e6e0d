use Rattle.std.proofs.Common.{rules, ℤ, List, length, pos, get_or, refl, sym, ap, ◌∙◌, arith}
use Rattle.gj_shape.specs.Elimination.{inserted}
use Rattle.gj_elim.specs.Tables.{rows_of}
use Rattle.gj_elim.proofs.KeptTables.{kept_row_read, place_in, extent_in, none_there, free_there}
use Rattle.gj_elim.proofs.LazyProgress.{lazy_start, lazy_zero, lazy_more, lazy_kept, lazy_end, lazy_exact, lazy_fits, zero_small, some_small}
use Rattle.gj_elim.proofs.lazy.reduce_lazily.Goals as goal
use Rattle.gj_elim.proofs.lazy.reduce_lazily.Goals.{then-row-column-ne0+in-Some+in-Some-next, else-row-column-ne0}

pub loop-column-init : goal.loop-column-init
loop-column-init c = record {
  lazy = lazy_start (rows_of c.args.kept.now)
      (length c.args.row.now) c.args.row.now c.reserve.new.self.items c.args.first_extent.bound
      c.args.first_extent.end refl (c.reserve.ensures.items ∙ c.requires.empty)
      c.requires.extent c.requires.bound;
  room = omega (arith, c.in_ok-reserve.ensures.ok);
}

pub returns-in_default-clause-reached : goal.returns-in_default-clause-reached
returns-in_default-clause-reached c =
    lazy_kept (inserted (length c.args.row.now) (rows_of c.args.kept.now)
    c.args.row.now) (rows_of c.args.kept.now)
    (length c.args.row.now) c.loop-column.column
    c.loop-column.row c.loop-column.reduce.items c.loop-column.is_stepped c.loop-column.extent.bound
    c.loop-column.extent.end c.loop-column.invariant.lazy (omega arith)
    (some_small (get_or c.loop-column.row c.loop-column.column (pos 0))
    c.if-row-column-ne0.true)
    (none_there (length c.args.row.now) c.args.kept.now c.loop-column.column _ c.requires.kept
    (omega arith) (place_in (length c.args.row.now) c.args.kept.now c.loop-column.column _
    c.requires.kept (omega arith) c.as_slice-places.ensures.value) c.in_default.is)

pub returns-in_default-clause-within : goal.returns-in_default-clause-within
returns-in_default-clause-within c = (
  lazy_fits c.loop-column.extent.bound c.loop-column.extent.end c.loop-column.row
      c.loop-column.invariant.lazy.extent c.loop-column.invariant.lazy.bounded,
  free_there (length c.args.row.now) c.args.kept.now c.loop-column.column _ c.requires.kept
      (omega arith) (place_in (length c.args.row.now) c.args.kept.now c.loop-column.column _
      c.requires.kept (omega arith) c.as_slice-places.ensures.value) c.in_default.is,
)

pub step-next-requires-clause-columns : goal.step-next-requires-clause-columns
step-next-requires-clause-columns c =
    let row = kept_row_read (length c.args.row.now) c.args.kept.now c.loop-column.column
    c.in-Some.place _ _ c.as_slice.result.now c.requires.kept (omega arith)
    (place_in (length c.args.row.now) c.args.kept.now c.loop-column.column _ c.requires.kept
    (omega arith) c.as_slice-places.ensures.value)
    c.in-Some.is (c.index-rows-place.is ∙ ap (λ (l : List (List ℤ)). get_or l c.in-Some.place
    c.index-rows-place.result) c.as_slice-rows.ensures.value) c.as_slice.ensures in
    row.pivot.columns ∙ sym c.loop-column.auto.row

pub step-next-requires-clause-kept_extent : goal.step-next-requires-clause-kept_extent
step-next-requires-clause-kept_extent c =
    extent_in (length c.args.row.now) c.args.kept.now c.loop-column.column c.in-Some.place _ _
    c.as_slice.result.now _ c.requires.kept (omega arith)
    (place_in (length c.args.row.now) c.args.kept.now c.loop-column.column _ c.requires.kept
    (omega arith) c.as_slice-places.ensures.value)
    c.in-Some.is (c.index-rows-place.is ∙ ap (λ (l : List (List ℤ)). get_or l c.in-Some.place
    c.index-rows-place.result) c.as_slice-rows.ensures.value) c.as_slice.ensures
    c.as_slice-extents.ensures.value

pub step-next-requires-clause-kept_zero : goal.step-next-requires-clause-kept_zero
step-next-requires-clause-kept_zero c =
    let row = kept_row_read (length c.args.row.now) c.args.kept.now c.loop-column.column
    c.in-Some.place _ _ c.as_slice.result.now c.requires.kept (omega arith)
    (place_in (length c.args.row.now) c.args.kept.now c.loop-column.column _ c.requires.kept
    (omega arith) c.as_slice-places.ensures.value)
    c.in-Some.is (c.index-rows-place.is ∙ ap (λ (l : List (List ℤ)). get_or l c.in-Some.place
    c.index-rows-place.result) c.as_slice-rows.ensures.value) c.as_slice.ensures in
    row.pivot.zero_before

pub step-next-requires-clause-positive : goal.step-next-requires-clause-positive
step-next-requires-clause-positive c =
    let row = kept_row_read (length c.args.row.now) c.args.kept.now c.loop-column.column
    c.in-Some.place _ _ c.as_slice.result.now c.requires.kept (omega arith)
    (place_in (length c.args.row.now) c.args.kept.now c.loop-column.column _ c.requires.kept
    (omega arith) c.as_slice-places.ensures.value)
    c.in-Some.is (c.index-rows-place.is ∙ ap (λ (l : List (List ℤ)). get_or l c.in-Some.place
    c.index-rows-place.result) c.as_slice-rows.ensures.value) c.as_slice.ensures in
    row.pivot.positive

pub returns-in-None-clause-reached : goal.returns-in-None-clause-reached
returns-in-None-clause-reached c =
    lazy_exact (inserted (length c.args.row.now) (rows_of c.args.kept.now)
    c.args.row.now) (rows_of c.args.kept.now)
    (length c.args.row.now) c.loop-column.column
    c.loop-column.row c.step-next.new.exact c.loop-column.reduce.items c.loop-column.is_stepped
    c.loop-column.extent.bound
    c.loop-column.extent.end c.loop-column.invariant.lazy (c.in-None.ensures.exact refl)

pub loop-column-preserved : goal.loop-column-preserved
loop-column-preserved c =
    elim c.if-row-column-ne0.branch [
      | then-row-column-ne0+in-Some+in-Some-next w ↦
          let row = kept_row_read (length c.args.row.now) c.args.kept.now c.loop-column.column
          w.in-Some.place _ _ w.as_slice.result.now c.requires.kept (omega arith)
          (place_in (length c.args.row.now) c.args.kept.now c.loop-column.column _
          c.requires.kept (omega arith) c.as_slice-places.ensures.value)
          w.in-Some.is (w.index-rows-place.is ∙ ap (λ (l : List (List ℤ)). get_or l
          w.in-Some.place w.index-rows-place.result) c.as_slice-rows.ensures.value)
          w.as_slice.ensures in
          let on = lazy_more (inserted (length c.args.row.now)
          (rows_of c.args.kept.now) c.args.row.now)
          (rows_of c.args.kept.now)
          (length c.args.row.now) c.loop-column.column
          c.loop-column.row w.step-next.new.row w.as_slice.result.now c.loop-column.reduce.items
          w.push_reserved.new.self.items c.loop-column.is_stepped
          c.loop-column.extent.bound c.loop-column.extent.end w.in-Some-next.after.bound
          w.in-Some-next.after.end c.loop-column.invariant.lazy (omega arith)
          (some_small (get_or c.loop-column.row c.loop-column.column (pos 0))
          w.if-row-column-ne0.true)
          row.here
          row.pivot
          w.in-Some-next.ensures.step w.push_reserved.ensures.items
          w.in-Some-next.ensures.extent w.in-Some-next.ensures.bound in
          rw (
            w.row-is,
            w.is_stepped-is,
            ap (λ e. e.bound) w.extent-is,
            ap
                (λ e. e.end) w.extent-is,
            w.reduce-is,
          ) (record {
            lazy = on;
            room = omega (
              arith,
              w.push_reserved.ensures.len,
              w.push_reserved.ensures.capacity,
              c.loop-column.invariant.room,
              c.loop-column-test.true,
            );
          })
      | else-row-column-ne0 w ↦
          let zero = zero_small (get_or c.loop-column.row c.loop-column.column (pos 0))
          (search rules) w.if-row-column-ne0.false in
          let on = lazy_zero (inserted (length c.args.row.now)
          (rows_of c.args.kept.now) c.args.row.now)
          (rows_of c.args.kept.now)
          (length c.args.row.now) c.loop-column.column
          c.loop-column.row c.loop-column.reduce.items c.loop-column.is_stepped
          c.loop-column.extent.bound c.loop-column.extent.end c.loop-column.invariant.lazy
          (omega arith) zero in
          rw (
            w.row-is,
            w.is_stepped-is,
            ap (λ e. e.bound) w.extent-is,
            ap
                (λ e. e.end) w.extent-is,
            w.reduce-is,
          ) (record { lazy = on; room = omega (arith, c.loop-column.invariant.room) })
    ]

pub returns-clause-reached : goal.returns-clause-reached
returns-clause-reached c =
    lazy_end (inserted (length c.args.row.now) (rows_of c.args.kept.now)
    c.args.row.now) (rows_of c.args.kept.now)
    (length c.args.row.now) c.loop-column.column
    c.loop-column.row c.loop-column.reduce.items c.loop-column.is_stepped c.loop-column.extent.bound
    c.loop-column.extent.end c.loop-column.invariant.lazy (omega arith)

pub returns-clause-within : goal.returns-clause-within
returns-clause-within c =
    lazy_fits c.loop-column.extent.bound c.loop-column.extent.end c.loop-column.row
    c.loop-column.invariant.lazy.extent c.loop-column.invariant.lazy.bounded
