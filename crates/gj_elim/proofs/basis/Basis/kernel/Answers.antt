use Rattle.std.proofs.Common.{None, Some, Option, ◌≡◌, ℕ, ◌+◌, ◌-◌, ◌<◌, List, ℤ, length, get_or, refl, ap, sym, subst, ◌∙◌, arith}
use Rattle.std.proofs.lemmas.List.{with_items_is}
use Rattle.gj_shape.specs.Elimination.{free_column, solved_at, marked_in_solving, Passes}
use Rattle.gj_elim.specs.Tables.{AreKept, rows_of}
use Rattle.gj_elim.specs.declared.kept.KeptRows.{KeptRows}
use Rattle.gj_elim.proofs.KeptTables.{free_read, IsRowRead, kept_there, kept_row_read, none_there}
use Rattle.gj_elim.proofs.KernelSteps.{IsSolvedTo, solved_start, solved_more, solved_wide, solved_end, no_kernel, row_there, free_below}
use Rattle.gj_elim.proofs.basis.Basis.kernel.Goals as goal

-- the kept row with its pivot at a column before the free one
row_before : (n : ℕ) (k : KeptRows) (free c i : ℕ) (x : Option ℕ) (y e : List ℤ) → AreKept n k →
    Some free ≡ free_column n (rows_of k) → c < free → x ≡ get_or k.places.items c x → x ≡ Some i →
    y ≡ get_or k.rows.items i y → e ≡ y → IsRowRead n k c e
row_before n k free c i x y e h free_is before x_is is y_is e_is =
    let below = free_below (rows_of k) n free free_is in
    kept_row_read n k c i x y e h (omega arith) x_is is y_is e_is

pub returns-in_default : goal.returns-in_default
returns-in_default c =
    let s = c.self.inside in
    let free_is = free_read s.columns s.kept.log.items s.kept.rows.items c.as_slice.result.now _
    None
    c.in_default.ensures c.as_slice.ensures.value c.self.invariant.kept.places
    c.self.invariant.kept.lines in
    let no = no_kernel c.args.self.now (rows_of s.kept) s.columns
    (ap (λ d. d.kept) c.self.view_is)
    (ap (λ d. d.columns) c.self.view_is) c.self.invariant.kept.triangular free_is in
    record {
      none = (λ e. no.full, λ full. refl);
      value = tt;
      narrow = no.narrow;
      wide = λ e. absurd cc;
      solves = tt;
      some = tt;
    }

pub loop-column-init : goal.loop-column-init
loop-column-init c =
    solved_start (rows_of c.self.inside.kept) c.self.inside.columns
    c.in-Some.free c.in_ok-numbers.numbers.items c.in_ok-numbers.ensures

pub index-requires : goal.index-requires
index-requires c =
    let s = c.self.inside in
    let columns = c.self.invariant.kept.places.columns_are in
    let len = s.kept.places.ok.0 in
    let below = free_below (rows_of s.kept) s.columns c.in-Some.free
    (free_read s.columns s.kept.log.items s.kept.rows.items c.as_slice.result.now _ _
    c.in-Some.ensures c.as_slice.ensures.value c.self.invariant.kept.places
    c.self.invariant.kept.lines) in
    omega arith

pub index-requires-in-Some-index : goal.index-requires-in-Some-index
index-requires-in-Some-index c =
    let s = c.self.inside in
    let below = free_below (rows_of s.kept) s.columns c.in-Some.free
    (free_read s.columns s.kept.log.items s.kept.rows.items c.as_slice.result.now _ _
    c.in-Some.ensures c.as_slice.ensures.value c.self.invariant.kept.places
    c.self.invariant.kept.lines) in
    let (inside, at) = kept_there s.columns s.kept (c.loop-column.column - 1) c.in-Some-index.place
    c.index.result.now c.self.invariant.kept (omega arith) c.index.ensures c.in-Some-index.is in
    let lines = c.self.invariant.kept.lines in
    let len = s.kept.rows.ok.0 in
    omega arith

pub solve_at-requires : goal.solve_at-requires
solve_at-requires c =
    let s = c.self.inside in
    let free_is = free_read s.columns s.kept.log.items s.kept.rows.items c.as_slice.result.now _ _
    c.in-Some.ensures c.as_slice.ensures.value c.self.invariant.kept.places
    c.self.invariant.kept.lines in
    let row = row_before s.columns s.kept c.in-Some.free (c.loop-column.column - 1)
    c.in-Some-index.place _ _ c.as_slice-in-Some-index.result.now c.self.invariant.kept free_is
    (omega arith) c.index.ensures
    c.in-Some-index.is c.index-in-Some-index.ensures
    c.as_slice-in-Some-index.ensures in
    record {
      columns = row.pivot.columns
          ∙ sym (ap length c.as_mut_slice.ensures.value ∙ c.loop-column.invariant.columns);
      within = row.within;
      fits = row.fits;
      positive = row.pivot.positive;
    }

pub loop-column-preserved-in-Continue-branch-2 : goal.loop-column-preserved-in-Continue-branch-2
loop-column-preserved-in-Continue-branch-2 c =
    let s = c.self.inside in
    let row_now = c.as_slice-in-Some-index.result.now in
    let free_is = free_read s.columns s.kept.log.items s.kept.rows.items c.as_slice.result.now _ _
    c.in-Some.ensures c.as_slice.ensures.value c.self.invariant.kept.places
    c.self.invariant.kept.lines in
    let row = row_before s.columns s.kept c.in-Some.free (c.loop-column.column - 1)
    c.in-Some-index.place _ _ row_now c.self.invariant.kept free_is (omega arith) c.index.ensures
    c.in-Some-index.is c.index-in-Some-index.ensures
    c.as_slice-in-Some-index.ensures in
    let next : c.loop-column.column ≡ c.loop-column.column - 1 + 1 = omega arith in
    let before = subst (λ (m : ℕ). IsSolvedTo (rows_of s.kept) s.columns
    c.in-Some.free m c.loop-column.numbers.items)
    next c.loop-column.invariant in
    let held = with_items_is c.loop-column.numbers c.solve_at.new.numbers
    (c.solve_at.auto.numbers ∙ ap length c.as_mut_slice.ensures.value
    ∙ sym c.loop-column.numbers.ok.0) in
    solved_more (rows_of s.kept) s.columns c.in-Some.free
    (c.loop-column.column - 1) c.loop-column.numbers.items _
    row_now before row.here
    (subst (λ (w : List ℤ). Passes (marked_in_solving row_now (c.loop-column.column - 1) w) →
    ⊥) c.as_mut_slice.ensures.value
    c.in_ok-solve_at.ensures.narrow)
    (held ∙ c.in_ok-solve_at.ensures.value
    ∙ ap (solved_at row_now (c.loop-column.column - 1)) c.as_mut_slice.ensures.value)

pub returns-in_err-solve_at-clause-wide : goal.returns-in_err-solve_at-clause-wide
returns-in_err-solve_at-clause-wide c =
    let s = c.self.inside in
    let row_now = c.as_slice-in-Some-index.result.now in
    let free_is = free_read s.columns s.kept.log.items s.kept.rows.items c.as_slice.result.now _ _
    c.in-Some.ensures c.as_slice.ensures.value c.self.invariant.kept.places
    c.self.invariant.kept.lines in
    let row = row_before s.columns s.kept c.in-Some.free (c.loop-column.column - 1)
    c.in-Some-index.place _ _ row_now c.self.invariant.kept free_is (omega arith) c.index.ensures
    c.in-Some-index.is c.index-in-Some-index.ensures
    c.as_slice-in-Some-index.ensures in
    let next : c.loop-column.column ≡ c.loop-column.column - 1 + 1 = omega arith in
    let before = subst (λ (m : ℕ). IsSolvedTo (rows_of s.kept) s.columns
    c.in-Some.free m c.loop-column.numbers.items)
    next c.loop-column.invariant in
    λ e. solved_wide c.args.self.now (rows_of s.kept) s.columns c.in-Some.free
    (c.loop-column.column - 1)
    c.loop-column.numbers.items row_now (ap (λ d. d.kept) c.self.view_is)
    (ap (λ d. d.columns) c.self.view_is)
    free_is before row.here
    (subst (λ (w : List ℤ). Passes (marked_in_solving row_now (c.loop-column.column - 1) w))
    c.as_mut_slice.ensures.value
    c.in_err-solve_at.ensures.wide)

pub loop-column-preserved : goal.loop-column-preserved
loop-column-preserved c =
    let s = c.self.inside in
    let free_is = free_read s.columns s.kept.log.items s.kept.rows.items c.as_slice.result.now _ _
    c.in-Some.ensures c.as_slice.ensures.value c.self.invariant.kept.places
    c.self.invariant.kept.lines in
    let below = free_below (rows_of s.kept) s.columns c.in-Some.free free_is in
    let none = none_there s.columns s.kept (c.loop-column.column - 1) c.index.result.now
    c.self.invariant.kept (omega arith) c.index.ensures c.in_default-index.is in
    absurd (row_there (rows_of s.kept) s.columns c.in-Some.free
    (c.loop-column.column - 1) free_is (omega arith) none)

pub returns : goal.returns
returns c =
    let s = c.self.inside in
    let free_is = free_read s.columns s.kept.log.items s.kept.rows.items c.as_slice.result.now _ _
    c.in-Some.ensures c.as_slice.ensures.value c.self.invariant.kept.places
    c.self.invariant.kept.lines in
    let end = solved_end c.args.self.now (rows_of s.kept) s.columns
    c.in-Some.free c.loop-column.column
    c.loop-column.numbers.items (ap (λ d. d.kept) c.self.view_is)
    (ap (λ d. d.columns) c.self.view_is) c.self.invariant.kept.triangular free_is
    c.loop-column.invariant (omega arith) in
    record {
      none = (λ e. absurd cc, λ full. absurd (end.some full));
      value = end.value;
      narrow = end.narrow;
      wide = λ e. absurd cc;
      solves = end.solves;
      some = end.positive;
    }
