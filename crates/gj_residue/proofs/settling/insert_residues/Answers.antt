use Rattle.std.proofs.Common.{refl, length, ap, sym, ◌∙◌, arith}
use Rattle.gj_shape.specs.Residues.{modulo}
use Rattle.gj_theory.specs.Modulus.{modulus}
use Rattle.gj_elim.specs.Data.{behind_by}
use Rattle.gj_residue.proofs.Coming.{come_start, come_on, come_full, come_end, next_length, gives_none, gives_some}
use Rattle.gj_residue.proofs.Inserting.{nothing_passes}
use Rattle.std.proofs.lemmas.Result.{err_from_is_err_and}
use Rattle.gj_residue.proofs.settling.insert_residues.Goals as goal

pub loop-alloc-init : goal.loop-alloc-init
loop-alloc-init g c = record {
  come = come_start (modulo modulus) c.args.columns (g.R.RowSource.left c.args.rows.now)
      (g.R.RowSource.left c.args.rows.now) c.in_ok-basis.basis c.in_ok-basis.ensures.columns
      c.in_ok-basis.ensures.inserted
      c.in_ok-basis.ensures.kept refl c.requires.lengths c.requires.count;
  same = refl;
}

pub returns-in_default-clause-kept : goal.returns-in_default-clause-kept
returns-in_default-clause-kept g c =
    (come_end (modulo modulus) c.args.columns (g.R.RowSource.left c.args.rows.now)
    (g.R.RowSource.left c.loop-alloc.rows) c.loop-alloc.basis c.loop-alloc.invariant.come
    (gives_none (g.R.RowSource.left c.loop-alloc.rows)
    (g.R.RowSource.left c.next.new.self) c.in_ok-row.field-0 c.in_default.is
    c.in_ok-row.ensures.told)).kept

pub insert-requires-clause-columns : goal.insert-requires-clause-columns
insert-requires-clause-columns g c =
    ap length c.as_slice.ensures.value
    ∙ (next_length (modulo modulus) c.args.columns
    (g.R.RowSource.left c.args.rows.now) c.loop-alloc.basis
    (g.R.RowSource.left c.loop-alloc.rows)
    (g.R.RowSource.left c.next.new.self) c.in-Some.row.items c.loop-alloc.invariant.come
    (gives_some (g.R.RowSource.left c.loop-alloc.rows)
    (g.R.RowSource.left c.next.new.self) c.in_ok-row.field-0 c.in-Some.row c.in-Some.is
    c.in_ok-row.ensures.told)).0
    ∙ sym c.loop-alloc.invariant.come.columns

pub insert-requires-clause-count : goal.insert-requires-clause-count
insert-requires-clause-count g c =
    (next_length (modulo modulus) c.args.columns
    (g.R.RowSource.left c.args.rows.now) c.loop-alloc.basis
    (g.R.RowSource.left c.loop-alloc.rows)
    (g.R.RowSource.left c.next.new.self) c.in-Some.row.items c.loop-alloc.invariant.come
    (gives_some (g.R.RowSource.left c.loop-alloc.rows)
    (g.R.RowSource.left c.next.new.self) c.in_ok-row.field-0 c.in-Some.row c.in-Some.is
    c.in_ok-row.ensures.told)).1

pub loop-alloc-preserved : goal.loop-alloc-preserved
loop-alloc-preserved g c = record {
  come = come_on (modulo modulus) c.args.columns
      (g.R.RowSource.left c.args.rows.now) c.loop-alloc.basis c.insert.new.self
      (g.R.RowSource.left c.loop-alloc.rows)
      (g.R.RowSource.left c.next.new.self) c.in-Some.row.items c.loop-alloc.invariant.come
      (gives_some (g.R.RowSource.left c.loop-alloc.rows)
      (g.R.RowSource.left c.next.new.self) c.in_ok-row.field-0 c.in-Some.row c.in-Some.is
      c.in_ok-row.ensures.told) (omega (arith, c.rank.ensures.count, c.loop-alloc-test.true))
      (nothing_passes c.loop-alloc.basis.columns c.loop-alloc.basis.kept c.in-Some.row.items)
      (c.in_ok-insert.ensures.kept
      ∙ ap (behind_by (modulo modulus) c.loop-alloc.basis) c.as_slice.ensures.value);
  same = c.in_ok-row.ensures.same ∙ c.loop-alloc.invariant.same;
}

pub loop-alloc-smaller : goal.loop-alloc-smaller
loop-alloc-smaller g c =
    let one = ap length (gives_some (g.R.RowSource.left c.loop-alloc.rows)
    (g.R.RowSource.left c.next.new.self) c.in_ok-row.field-0 c.in-Some.row c.in-Some.is
    c.in_ok-row.ensures.told) in
    omega arith

pub returns-clause-kept : goal.returns-clause-kept
returns-clause-kept g c =
    (come_full (modulo modulus) c.args.columns (g.R.RowSource.left c.args.rows.now)
    (g.R.RowSource.left c.loop-alloc.rows) c.loop-alloc.basis c.loop-alloc.invariant.come
    (omega (arith, c.rank.ensures.count, c.loop-alloc-test.false))).kept

pub returns-in_err-basis-clause-columns : goal.returns-in_err-basis-clause-columns
returns-in_err-basis-clause-columns g c =
    rw (err_from_is_err_and c.from_residual.result c.from_residual.ensures.1).1 tt

pub returns-in_err-basis-clause-kept : goal.returns-in_err-basis-clause-kept
returns-in_err-basis-clause-kept g c =
    rw (err_from_is_err_and c.from_residual.result c.from_residual.ensures.1).1 tt

pub returns-in_err-row-clause-columns : goal.returns-in_err-row-clause-columns
returns-in_err-row-clause-columns g c =
    rw (err_from_is_err_and c.from_residual-in_err-row.result
    c.from_residual-in_err-row.ensures.1).1 tt

pub returns-in_err-row-clause-kept : goal.returns-in_err-row-clause-kept
returns-in_err-row-clause-kept g c =
    rw (err_from_is_err_and c.from_residual-in_err-row.result
    c.from_residual-in_err-row.ensures.1).1 tt

pub returns-in_err-insert-clause-columns : goal.returns-in_err-insert-clause-columns
returns-in_err-insert-clause-columns g c =
    rw (err_from_is_err_and c.from_residual-in_err-insert.result
    c.from_residual-in_err-insert.ensures.1).1 tt

pub returns-in_err-insert-clause-kept : goal.returns-in_err-insert-clause-kept
returns-in_err-insert-clause-kept g c =
    rw (err_from_is_err_and c.from_residual-in_err-insert.result
    c.from_residual-in_err-insert.ensures.1).1 tt
