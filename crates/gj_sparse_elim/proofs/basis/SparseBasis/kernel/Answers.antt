use Rattle.std.proofs.Common.{None, Some, Option, ◌≡◌, ℕ, ◌+◌, ◌-◌, ◌<◌, List, ℤ, pos, ◌<ℤ◌, length, map, get_or, refl, ap, sym, subst, ◌∙◌, arith}
use Rattle.std.proofs.lemmas.List.{with_items_is}
use Rattle.gj_shape.specs.Elimination.{at_column, free_column, solved_at, marked_in_solving, Passes}
use Rattle.gj_elim.specs.declared.log.LogRow.{LogRow}
use Rattle.gj_elim.specs.KeptRows.{kept_rows}
use Rattle.gj_elim.specs.Tables.{ArePlaces}
use Rattle.gj_elim.proofs.KeptTables.{free_read}
use Rattle.gj_elim.proofs.KernelSteps.{IsSolvedTo, solved_start, solved_more, solved_wide, solved_end, no_kernel, row_there, free_below}
use Rattle.gj_sparse_elim.specs.Rows.{sparse_rows, AreKeptSparse}
use Rattle.gj_sparse_elim.specs.Sparse.{dense, AreSparse}
use Rattle.gj_sparse_elim.specs.declared.entry.Entry.{Entry}
use Rattle.gj_sparse_elim.specs.declared.kept.KeptSparse.{KeptSparse}
use Rattle.gj_sparse_elim.proofs.KeptEntries.{IsSparsePivot, lines_too, sparse_pivot, place_there, none_there}
use Rattle.gj_sparse_elim.proofs.basis.SparseBasis.kernel.Goals as goal

-- the free column, if there is one, by the places as the code reads them
free_is : (n : ℕ) (k : KeptSparse) (read : List (Option ℕ)) (o : Option ℕ) →
    ((ls : List LogRow) (rs : List (List ℤ)) → length ls ≡ length rs →
    ArePlaces (length read) ls read → o ≡ free_column (length read) (kept_rows ls rs)) →
    read ≡ k.places.items → AreKeptSparse n k → o ≡ free_column n (sparse_rows n k)
free_is n k read o is same h =
    free_read n k.log.items (map (dense n) k.rows.items) read k.places.items o is same h.places
    (lines_too n k.log.items k.rows.items h.lines)

-- the kept row with its pivot at a column before the free one
row_before : (n : ℕ) (k : KeptSparse) (free c i : ℕ) (x : Option ℕ) (y e : List Entry) →
    AreKeptSparse n k → Some free ≡ free_column n (sparse_rows n k) → c < free →
    x ≡ get_or k.places.items c x → x ≡ Some i → y ≡ get_or k.rows.items i y → e ≡ y →
    IsSparsePivot n c i k e
row_before n k free c i x y e h is_free before x_is is y_is e_is =
    let below = free_below (sparse_rows n k) n free is_free in
    sparse_pivot n k c i x y e h (omega arith) x_is is y_is e_is

pub returns-in_default : goal.returns-in_default
returns-in_default c =
    let s = c.self.inside in
    let no = no_kernel c.args.self.now (sparse_rows s.columns s.kept) s.columns
    (ap (λ d. d.kept) c.self.view_is)
    (ap (λ d. d.columns) c.self.view_is) c.self.invariant.kept.triangular
    (free_is s.columns s.kept c.as_slice.result.now None c.in_default.ensures
    c.as_slice.ensures.value c.self.invariant.kept) in
    record {
      none = (λ e. no.full, λ full. refl);
      value = tt;
      narrow = no.narrow;
      wide = λ e. absurd cc;
      solves = tt;
      some = tt;
    }

pub loop-column-init : goal.loop-column-init
loop-column-init c =
    solved_start (sparse_rows c.self.inside.columns c.self.inside.kept) c.self.inside.columns
    c.in-Some.free c.in_ok-numbers.numbers.items c.in_ok-numbers.ensures

pub index-requires : goal.index-requires
index-requires c =
    let s = c.self.inside in
    let columns = c.self.invariant.kept.places.columns_are in
    let len = s.kept.places.ok.0 in
    let below = free_below (sparse_rows s.columns s.kept) s.columns c.in-Some.free
    (free_is s.columns s.kept c.as_slice.result.now _ c.in-Some.ensures c.as_slice.ensures.value
    c.self.invariant.kept) in
    omega arith

pub index-requires-in-Some-index : goal.index-requires-in-Some-index
index-requires-in-Some-index c =
    let s = c.self.inside in
    let below = free_below (sparse_rows s.columns s.kept) s.columns c.in-Some.free
    (free_is s.columns s.kept c.as_slice.result.now _ c.in-Some.ensures c.as_slice.ensures.value
    c.self.invariant.kept) in
    let (inside, at) = place_there s.columns s.kept (c.loop-column.column - 1) c.in-Some-index.place
    c.index.result.now c.self.invariant.kept (omega arith) c.index.ensures c.in-Some-index.is in
    let len = s.kept.rows.ok.0 in
    omega arith

pub solve_at-requires : goal.solve_at-requires
solve_at-requires c =
    let s = c.self.inside in
    let e = c.as_slice-in-Some-index.result.now in
    let free = free_is s.columns s.kept c.as_slice.result.now _ c.in-Some.ensures
    c.as_slice.ensures.value c.self.invariant.kept in
    let below = free_below (sparse_rows s.columns s.kept) s.columns c.in-Some.free free in
    let row = row_before s.columns s.kept c.in-Some.free (c.loop-column.column - 1)
    c.in-Some-index.place c.index.result.now _ e c.self.invariant.kept free (omega arith)
    c.index.ensures c.in-Some-index.is c.index-in-Some-index.ensures
    c.as_slice-in-Some-index.ensures in
    let w_is : length c.as_mut_slice.result.now ≡ s.columns = ap length c.as_mut_slice.ensures.value
    ∙ c.loop-column.invariant.columns in
    record {
      sparse = subst (λ (n : ℕ). AreSparse n e) (sym w_is) row.sparse;
      within = omega arith;
      zero = subst (λ (n : ℕ). (k : ℕ) → k < c.loop-column.column - 1 →
          at_column (dense n e) k ≡ pos 0) (sym w_is) row.pivot.zero_before;
      positive = subst (λ (n : ℕ). pos 0 <ℤ at_column (dense n e) (c.loop-column.column - 1))
          (sym w_is) row.pivot.positive;
    }

pub loop-column-preserved-in-Continue-branch-2 : goal.loop-column-preserved-in-Continue-branch-2
loop-column-preserved-in-Continue-branch-2 c =
    let s = c.self.inside in
    let kept = sparse_rows s.columns s.kept in
    let e = c.as_slice-in-Some-index.result.now in
    let free = free_is s.columns s.kept c.as_slice.result.now _ c.in-Some.ensures
    c.as_slice.ensures.value c.self.invariant.kept in
    let row = row_before s.columns s.kept c.in-Some.free (c.loop-column.column - 1)
    c.in-Some-index.place c.index.result.now _ e c.self.invariant.kept free (omega arith)
    c.index.ensures c.in-Some-index.is c.index-in-Some-index.ensures
    c.as_slice-in-Some-index.ensures in
    let w_is : length c.as_mut_slice.result.now ≡ s.columns = ap length c.as_mut_slice.ensures.value
    ∙ c.loop-column.invariant.columns in
    let next : c.loop-column.column ≡ c.loop-column.column - 1 + 1 = omega arith in
    let before = subst (λ (m : ℕ). IsSolvedTo kept s.columns c.in-Some.free m
    c.loop-column.numbers.items)
    next c.loop-column.invariant in
    let held = with_items_is c.loop-column.numbers c.solve_at.new.numbers
    (c.solve_at.auto.numbers ∙ ap length c.as_mut_slice.ensures.value
    ∙ sym c.loop-column.numbers.ok.0) in
    solved_more kept s.columns c.in-Some.free (c.loop-column.column - 1) c.loop-column.numbers.items
    _
    (dense s.columns e) before row.here
    (subst (λ (w : List ℤ). Passes
    (marked_in_solving (dense s.columns e) (c.loop-column.column - 1) w) → ⊥)
    c.as_mut_slice.ensures.value
    (subst (λ (n : ℕ). Passes (marked_in_solving (dense n e) (c.loop-column.column - 1)
    c.as_mut_slice.result.now) → ⊥) w_is
    c.in_ok-solve_at.ensures.narrow))
    (held ∙ c.in_ok-solve_at.ensures.value
    ∙ ap (λ n. solved_at (dense n e) (c.loop-column.column - 1) c.as_mut_slice.result.now) w_is
    ∙ ap (solved_at (dense s.columns e) (c.loop-column.column - 1)) c.as_mut_slice.ensures.value)

pub returns-in_err-solve_at-clause-wide : goal.returns-in_err-solve_at-clause-wide
returns-in_err-solve_at-clause-wide c =
    let s = c.self.inside in
    let kept = sparse_rows s.columns s.kept in
    let e = c.as_slice-in-Some-index.result.now in
    let free = free_is s.columns s.kept c.as_slice.result.now _ c.in-Some.ensures
    c.as_slice.ensures.value c.self.invariant.kept in
    let row = row_before s.columns s.kept c.in-Some.free (c.loop-column.column - 1)
    c.in-Some-index.place c.index.result.now _ e c.self.invariant.kept free (omega arith)
    c.index.ensures c.in-Some-index.is c.index-in-Some-index.ensures
    c.as_slice-in-Some-index.ensures in
    let w_is : length c.as_mut_slice.result.now ≡ s.columns = ap length c.as_mut_slice.ensures.value
    ∙ c.loop-column.invariant.columns in
    let next : c.loop-column.column ≡ c.loop-column.column - 1 + 1 = omega arith in
    let before = subst (λ (m : ℕ). IsSolvedTo kept s.columns c.in-Some.free m
    c.loop-column.numbers.items)
    next c.loop-column.invariant in
    λ error. solved_wide c.args.self.now kept s.columns c.in-Some.free (c.loop-column.column - 1)
    c.loop-column.numbers.items (dense s.columns e) (ap (λ d. d.kept) c.self.view_is)
    (ap (λ d. d.columns) c.self.view_is)
    free before row.here
    (subst (λ (w : List ℤ). Passes
    (marked_in_solving (dense s.columns e) (c.loop-column.column - 1) w))
    c.as_mut_slice.ensures.value
    (subst (λ (n : ℕ). Passes (marked_in_solving (dense n e) (c.loop-column.column - 1)
    c.as_mut_slice.result.now)) w_is
    c.in_err-solve_at.ensures.wide))

pub loop-column-preserved : goal.loop-column-preserved
loop-column-preserved c =
    let s = c.self.inside in
    let kept = sparse_rows s.columns s.kept in
    let free = free_is s.columns s.kept c.as_slice.result.now _ c.in-Some.ensures
    c.as_slice.ensures.value c.self.invariant.kept in
    let below = free_below kept s.columns c.in-Some.free free in
    let none = none_there s.columns s.kept (c.loop-column.column - 1) c.index.result.now
    c.self.invariant.kept (omega arith) c.index.ensures c.in_default-index.is in
    absurd (row_there kept s.columns c.in-Some.free (c.loop-column.column - 1) free (omega arith)
    none)

pub returns : goal.returns
returns c =
    let s = c.self.inside in
    let free = free_is s.columns s.kept c.as_slice.result.now _ c.in-Some.ensures
    c.as_slice.ensures.value c.self.invariant.kept in
    let end = solved_end c.args.self.now (sparse_rows s.columns s.kept) s.columns c.in-Some.free
    c.loop-column.column
    c.loop-column.numbers.items (ap (λ d. d.kept) c.self.view_is)
    (ap (λ d. d.columns) c.self.view_is) c.self.invariant.kept.triangular free
    c.loop-column.invariant (omega arith) in
    record {
      none = (λ e. absurd cc, λ full. absurd (end.some full));
      value = end.value;
      narrow = end.narrow;
      wide = λ e. absurd cc;
      solves = end.solves;
      some = end.positive;
    }
