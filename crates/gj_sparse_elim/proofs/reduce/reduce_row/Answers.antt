use Rattle.std.proofs.Common.{ℤ, List, length, refl, sym, ap, subst, ◌∙◌}
use Rattle.std.specs.Prelude.{All}
use Rattle.gj_frac.specs.Fraction.{Fits}
use Rattle.gj_shape.specs.Elimination.{inserted}
use Rattle.gj_elim.proofs.Keeping.{same_error}
use Rattle.gj_sparse_elim.specs.Sparse.{dense}
use Rattle.gj_sparse_elim.specs.Rows.{sparse_rows}
use Rattle.gj_sparse_elim.proofs.SparseRows.{dense_fits}
use Rattle.gj_sparse_elim.proofs.KeptEntries.{sparse_start, sparse_reached}
use Rattle.gj_sparse_elim.proofs.reduce.reduce_row.Goals as goal

pub reduce_exactly-requires-clause-fits : goal.reduce_exactly-requires-clause-fits
reduce_exactly-requires-clause-fits c =
    subst (λ (xs : List ℤ). All Fits xs) (sym c.spread.ensures)
    (dense_fits (length c.args.row.now) c.args.given.now c.requires.sparse)

pub returns-then-bound-ge-GREATEST_BOUND-clause-left :
    goal.returns-then-bound-ge-GREATEST_BOUND-clause-left
returns-then-bound-ge-GREATEST_BOUND-clause-left c =
    let done = c.in_ok-left.ensures.done (inserted (length c.args.row.now)
    (sparse_rows (length c.args.row.now) c.args.kept.now)
    (dense (length c.args.row.now) c.args.given.now))
    (sparse_start (length c.args.row.now) _ c.args.kept.now.log.items c.args.kept.now.rows.items
    c.args.given.now
    c.spread.new.row c.args.reduce.now.items
    c.spread.auto.row c.spread.ensures c.requires.empty) in record {
      row = c.reduce_exactly.new.row;
      left = c.in_ok-left.left;
      columns = c.reduce_exactly.auto.row ∙ c.spread.auto.row;
      left_is = done.left_is;
      kept = c.in_ok-wide_left.ensures;
    }

pub returns-then-bound-ge-GREATEST_BOUND-clause-narrow :
    goal.returns-then-bound-ge-GREATEST_BOUND-clause-narrow
returns-then-bound-ge-GREATEST_BOUND-clause-narrow c =
    (c.in_ok-left.ensures.done (inserted (length c.args.row.now)
    (sparse_rows (length c.args.row.now) c.args.kept.now)
    (dense (length c.args.row.now) c.args.given.now))
    (sparse_start (length c.args.row.now) _ c.args.kept.now.log.items c.args.kept.now.rows.items
    c.args.given.now
    c.spread.new.row c.args.reduce.now.items
    c.spread.auto.row c.spread.ensures c.requires.empty)).narrow

pub returns-in_err-left-clause-wide : goal.returns-in_err-left-clause-wide
returns-in_err-left-clause-wide c = λ e.
    c.in_err-left.ensures.wide (same_error c.from_residual.result c.in_err-left.field-0.0 _
    c.from_residual.ensures.0 c.from_residual.ensures.1 e)
    (inserted (length c.args.row.now)
    (sparse_rows (length c.args.row.now) c.args.kept.now)
    (dense (length c.args.row.now) c.args.given.now))
    (sparse_start (length c.args.row.now) _ c.args.kept.now.log.items c.args.kept.now.rows.items
    c.args.given.now
    c.spread.new.row c.args.reduce.now.items
    c.spread.auto.row c.spread.ensures c.requires.empty)

pub returns-in_ok-wide_left-in-Column-clause-left :
    goal.returns-in_ok-wide_left-in-Column-clause-left
returns-in_ok-wide_left-in-Column-clause-left c =
    let done = c.in_ok-left-in-Column.ensures.done (inserted (length c.args.row.now)
    (sparse_rows (length c.args.row.now) c.args.kept.now)
    (dense (length c.args.row.now) c.args.given.now))
    (sparse_reached (length c.args.row.now) (length c.load.new.row)
    (length c.reduce_lazily.new.exact) c.args.kept.now.log.items c.args.kept.now.rows.items
    c.args.given.now c.load.new.row c.reduce_lazily.new.row c.reduce_lazily.new.exact
    c.in_ok-reduce_lazily.field-0 c.in-Column.column
    c.reduce_lazily.new.reduce.items (c.load.auto.row ∙ c.requires.small_columns)
    c.reduce_lazily.auto.exact refl
    (c.load.ensures.value ∙ ap (λ n. dense n c.args.given.now) (sym c.load.auto.row)) c.in-Column.is
    c.in_ok-reduce_lazily.ensures.reached) in record {
      row = c.reduce_exactly-in-Column.new.row;
      left = c.in_ok-left-in-Column.left;
      columns = c.reduce_exactly-in-Column.auto.row ∙ c.reduce_lazily.auto.exact;
      left_is = done.left_is;
      kept = c.in_ok-wide_left-in-Column.ensures;
    }

pub returns-in_ok-wide_left-in-Column-clause-narrow :
    goal.returns-in_ok-wide_left-in-Column-clause-narrow
returns-in_ok-wide_left-in-Column-clause-narrow c =
    (c.in_ok-left-in-Column.ensures.done (inserted (length c.args.row.now)
    (sparse_rows (length c.args.row.now) c.args.kept.now)
    (dense (length c.args.row.now) c.args.given.now))
    (sparse_reached (length c.args.row.now) (length c.load.new.row)
    (length c.reduce_lazily.new.exact) c.args.kept.now.log.items c.args.kept.now.rows.items
    c.args.given.now c.load.new.row c.reduce_lazily.new.row c.reduce_lazily.new.exact
    c.in_ok-reduce_lazily.field-0 c.in-Column.column
    c.reduce_lazily.new.reduce.items (c.load.auto.row ∙ c.requires.small_columns)
    c.reduce_lazily.auto.exact refl
    (c.load.ensures.value ∙ ap (λ n. dense n c.args.given.now) (sym c.load.auto.row)) c.in-Column.is
    c.in_ok-reduce_lazily.ensures.reached)).narrow

pub returns-in_err-left-in-Column-clause-wide : goal.returns-in_err-left-in-Column-clause-wide
returns-in_err-left-in-Column-clause-wide c = λ e.
    c.in_err-left-in-Column.ensures.wide (same_error c.from_residual-in_err-left-in-Column.result
    c.in_err-left-in-Column.field-0.0 _ c.from_residual-in_err-left-in-Column.ensures.0
    c.from_residual-in_err-left-in-Column.ensures.1 e)
    (inserted (length c.args.row.now)
    (sparse_rows (length c.args.row.now) c.args.kept.now)
    (dense (length c.args.row.now) c.args.given.now))
    (sparse_reached (length c.args.row.now) (length c.load.new.row)
    (length c.reduce_lazily.new.exact) c.args.kept.now.log.items c.args.kept.now.rows.items
    c.args.given.now c.load.new.row c.reduce_lazily.new.row c.reduce_lazily.new.exact
    c.in_ok-reduce_lazily.field-0 c.in-Column.column
    c.reduce_lazily.new.reduce.items (c.load.auto.row ∙ c.requires.small_columns)
    c.reduce_lazily.auto.exact refl
    (c.load.ensures.value ∙ ap (λ n. dense n c.args.given.now) (sym c.load.auto.row)) c.in-Column.is
    c.in_ok-reduce_lazily.ensures.reached)
