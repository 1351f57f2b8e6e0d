use Rattle.std.proofs.Common.{ℤ, refl, List, length, ap, sym, subst, ◌∙◌, arith}
use Rattle.std.specs.Prelude.{All}
use Rattle.std.proofs.lemmas.List.Elements.{All-head, All-tail}
use Rattle.gj_frac.specs.Fraction.{Fits}
use Rattle.gj_shape.specs.Elimination.{whole_numbers, inserted, Passes}
use Rattle.gj_elim.specs.Data.{behind}
use Rattle.gj_elim.proofs.Keeping.{same_error}
use Rattle.gj_residue.proofs.Coming.{come_start, come_on, come_wide, come_full, come_end, next_length, gives_none, gives_some}
use Rattle.std.proofs.lemmas.Result.{err_from_is_err_and}
use Rattle.gj_residue.proofs.settling.insert_all.Goals as goal

pub loop-alloc-init : goal.loop-alloc-init
loop-alloc-init g c = record {
  come = come_start whole_numbers c.args.columns (g.R.RowSource.left c.args.rows.now)
      (g.R.RowSource.left c.args.rows.now) c.in_ok-basis.basis c.in_ok-basis.ensures.columns
      c.in_ok-basis.ensures.inserted
      c.in_ok-basis.ensures.kept refl c.requires.lengths c.requires.count;
  entries = c.requires.entries;
  same = refl;
}

pub returns-in_default-clause-kept : goal.returns-in_default-clause-kept
returns-in_default-clause-kept g c =
    (come_end whole_numbers c.args.columns (g.R.RowSource.left c.args.rows.now)
    (g.R.RowSource.left c.loop-alloc.rows) c.loop-alloc.basis c.loop-alloc.invariant.come
    (gives_none (g.R.RowSource.left c.loop-alloc.rows)
    (g.R.RowSource.left c.next.new.self) c.in_ok-row.field-0 c.in_default.is
    c.in_ok-row.ensures.told)).kept

pub returns-in_default-clause-narrow : goal.returns-in_default-clause-narrow
returns-in_default-clause-narrow g c =
    (come_end whole_numbers c.args.columns (g.R.RowSource.left c.args.rows.now)
    (g.R.RowSource.left c.loop-alloc.rows) c.loop-alloc.basis c.loop-alloc.invariant.come
    (gives_none (g.R.RowSource.left c.loop-alloc.rows)
    (g.R.RowSource.left c.next.new.self) c.in_ok-row.field-0 c.in_default.is
    c.in_ok-row.ensures.told)).narrow

pub insert-requires-clause-columns : goal.insert-requires-clause-columns
insert-requires-clause-columns g c =
    ap length c.as_slice.ensures.value
    ∙ (next_length whole_numbers c.args.columns
    (g.R.RowSource.left c.args.rows.now) c.loop-alloc.basis
    (g.R.RowSource.left c.loop-alloc.rows)
    (g.R.RowSource.left c.next.new.self) c.in-Some.row.items c.loop-alloc.invariant.come
    (gives_some (g.R.RowSource.left c.loop-alloc.rows)
    (g.R.RowSource.left c.next.new.self) c.in_ok-row.field-0 c.in-Some.row c.in-Some.is
    c.in_ok-row.ensures.told)).0
    ∙ sym c.loop-alloc.invariant.come.columns

pub insert-requires-clause-count : goal.insert-requires-clause-count
insert-requires-clause-count g c =
    (next_length whole_numbers c.args.columns
    (g.R.RowSource.left c.args.rows.now) c.loop-alloc.basis
    (g.R.RowSource.left c.loop-alloc.rows)
    (g.R.RowSource.left c.next.new.self) c.in-Some.row.items c.loop-alloc.invariant.come
    (gives_some (g.R.RowSource.left c.loop-alloc.rows)
    (g.R.RowSource.left c.next.new.self) c.in_ok-row.field-0 c.in-Some.row c.in-Some.is
    c.in_ok-row.ensures.told)).1

pub insert-requires-clause-entries : goal.insert-requires-clause-entries
insert-requires-clause-entries g c =
    subst (All Fits) (sym c.as_slice.ensures.value)
    (All-head (All Fits) c.in-Some.row.items (g.R.RowSource.left c.next.new.self)
    (subst (All (All Fits))
    (gives_some (g.R.RowSource.left c.loop-alloc.rows)
    (g.R.RowSource.left c.next.new.self) c.in_ok-row.field-0 c.in-Some.row c.in-Some.is
    c.in_ok-row.ensures.told) c.loop-alloc.invariant.entries))

pub returns-in_err-insert-clause-wide : goal.returns-in_err-insert-clause-wide
returns-in_err-insert-clause-wide g c = λ e.
    come_wide whole_numbers c.args.columns (g.R.RowSource.left c.args.rows.now) c.loop-alloc.basis
    (g.R.RowSource.left c.loop-alloc.rows) (g.R.RowSource.left c.next.new.self)
    c.in-Some.row.items c.loop-alloc.invariant.come
    (gives_some (g.R.RowSource.left c.loop-alloc.rows)
    (g.R.RowSource.left c.next.new.self) c.in_ok-row.field-0 c.in-Some.row c.in-Some.is
    c.in_ok-row.ensures.told) (omega (arith, c.rank.ensures.count, c.loop-alloc-test.true))
    (subst (λ (xs : List ℤ). Passes
    (inserted c.loop-alloc.basis.columns c.loop-alloc.basis.kept xs).marked)
    c.as_slice.ensures.value
    (c.in_err-insert.ensures.wide
    (same_error c.from_residual-in_err-insert.result c.in_err-insert.field-0.0 _
    c.from_residual-in_err-insert.ensures.0 c.from_residual-in_err-insert.ensures.1 e)))

pub loop-alloc-preserved : goal.loop-alloc-preserved
loop-alloc-preserved g c = record {
  come = come_on whole_numbers c.args.columns
      (g.R.RowSource.left c.args.rows.now) c.loop-alloc.basis c.insert.new.self
      (g.R.RowSource.left c.loop-alloc.rows)
      (g.R.RowSource.left c.next.new.self) c.in-Some.row.items c.loop-alloc.invariant.come
      (gives_some (g.R.RowSource.left c.loop-alloc.rows)
      (g.R.RowSource.left c.next.new.self) c.in_ok-row.field-0 c.in-Some.row c.in-Some.is
      c.in_ok-row.ensures.told) (omega (arith, c.rank.ensures.count, c.loop-alloc-test.true))
      (subst (λ (xs : List ℤ). Passes
      (inserted c.loop-alloc.basis.columns c.loop-alloc.basis.kept xs).marked →
      ⊥) c.as_slice.ensures.value
      c.in_ok-insert.ensures.narrow) (c.in_ok-insert.ensures.kept
      ∙ ap (behind c.loop-alloc.basis) c.as_slice.ensures.value);
  entries = All-tail (All Fits) c.in-Some.row.items (g.R.RowSource.left c.next.new.self)
      (subst (All (All Fits))
      (gives_some (g.R.RowSource.left c.loop-alloc.rows)
      (g.R.RowSource.left c.next.new.self) c.in_ok-row.field-0 c.in-Some.row c.in-Some.is
      c.in_ok-row.ensures.told) c.loop-alloc.invariant.entries);
  same = c.in_ok-row.ensures.same ∙ c.loop-alloc.invariant.same;
}

pub loop-alloc-smaller : goal.loop-alloc-smaller
loop-alloc-smaller g c =
    let one = ap length (gives_some (g.R.RowSource.left c.loop-alloc.rows)
    (g.R.RowSource.left c.next.new.self) c.in_ok-row.field-0 c.in-Some.row c.in-Some.is
    c.in_ok-row.ensures.told) in
    omega arith

pub returns-clause-kept : goal.returns-clause-kept
returns-clause-kept g c =
    (come_full whole_numbers c.args.columns (g.R.RowSource.left c.args.rows.now)
    (g.R.RowSource.left c.loop-alloc.rows) c.loop-alloc.basis c.loop-alloc.invariant.come
    (omega (arith, c.rank.ensures.count, c.loop-alloc-test.false))).kept

pub returns-clause-narrow : goal.returns-clause-narrow
returns-clause-narrow g c =
    (come_full whole_numbers c.args.columns (g.R.RowSource.left c.args.rows.now)
    (g.R.RowSource.left c.loop-alloc.rows) c.loop-alloc.basis c.loop-alloc.invariant.come
    (omega (arith, c.rank.ensures.count, c.loop-alloc-test.false))).narrow

pub returns-in_err-basis-clause-columns : goal.returns-in_err-basis-clause-columns
returns-in_err-basis-clause-columns g c =
    rw (err_from_is_err_and c.from_residual.result c.from_residual.ensures.1).1 tt

pub returns-in_err-basis-clause-kept : goal.returns-in_err-basis-clause-kept
returns-in_err-basis-clause-kept g c =
    rw (err_from_is_err_and c.from_residual.result c.from_residual.ensures.1).1 tt

pub returns-in_err-basis-clause-narrow : goal.returns-in_err-basis-clause-narrow
returns-in_err-basis-clause-narrow g c =
    rw (err_from_is_err_and c.from_residual.result c.from_residual.ensures.1).1 tt

pub returns-in_err-row-clause-columns : goal.returns-in_err-row-clause-columns
returns-in_err-row-clause-columns g c =
    rw (err_from_is_err_and c.from_residual-in_err-row.result
    c.from_residual-in_err-row.ensures.1).1 tt

pub returns-in_err-row-clause-kept : goal.returns-in_err-row-clause-kept
returns-in_err-row-clause-kept g c =
    rw (err_from_is_err_and c.from_residual-in_err-row.result
    c.from_residual-in_err-row.ensures.1).1 tt

pub returns-in_err-row-clause-narrow : goal.returns-in_err-row-clause-narrow
returns-in_err-row-clause-narrow g c =
    rw (err_from_is_err_and c.from_residual-in_err-row.result
    c.from_residual-in_err-row.ensures.1).1 tt

pub returns-in_err-insert-clause-columns : goal.returns-in_err-insert-clause-columns
returns-in_err-insert-clause-columns g c =
    rw (err_from_is_err_and c.from_residual-in_err-insert.result
    c.from_residual-in_err-insert.ensures.1).1 tt

pub returns-in_err-insert-clause-kept : goal.returns-in_err-insert-clause-kept
returns-in_err-insert-clause-kept g c =
    rw (err_from_is_err_and c.from_residual-in_err-insert.result
    c.from_residual-in_err-insert.ensures.1).1 tt

pub returns-in_err-insert-clause-narrow : goal.returns-in_err-insert-clause-narrow
returns-in_err-insert-clause-narrow g c =
    rw (err_from_is_err_and c.from_residual-in_err-insert.result
    c.from_residual-in_err-insert.ensures.1).1 tt
