use Rattle.std.proofs.Common.{ℕ, ℤ, List, length, sym, ap, subst, ◌∙◌}
use Rattle.std.specs.Prelude.{All}
use Rattle.gj_frac.specs.Fraction.{Fits}
use Rattle.gj_elim.specs.Lazy.{IsExtent}
use Rattle.gj_elim.specs.Progress.{IsReachedWithin}
use Rattle.gj_elim.specs.Tables.{rows_of, AreKept}
use Rattle.gj_elim.specs.declared.lazy.Reached.{Reached}
use Rattle.gj_shape.specs.Elimination.{inserted}
use Rattle.std.proofs.lemmas.Result.{err_from_is_err_and}
use Rattle.gj_elim.proofs.LazyProgress.{start_at, reached_column, if_ok_more, on_ok_more}
use Rattle.gj_elim.proofs.reduce.reduce_row.Goals as goal

-- ---- what the calls need: each row has the columns of the one that is given

pub copy_from_slice-requires : goal.copy_from_slice-requires
copy_from_slice-requires c = c.requires.row_columns

pub load-requires-clause-columns : goal.load-requires-clause-columns
load-requires-clause-columns c = sym c.requires.small_columns

pub reduce_exactly-requires-clause-kept : goal.reduce_exactly-requires-clause-kept
reduce_exactly-requires-clause-kept c =
    subst (λ (n : ℕ). AreKept n c.args.kept.now) (sym (ap length c.copy_from_slice.ensures.after))
    c.requires.kept

pub reduce_exactly-requires-clause-fits : goal.reduce_exactly-requires-clause-fits
reduce_exactly-requires-clause-fits c =
    subst (λ (xs : List ℤ). All Fits xs) (sym c.copy_from_slice.ensures.after) c.requires.fits

pub reduce_lazily-requires-clause-kept : goal.reduce_lazily-requires-clause-kept
reduce_lazily-requires-clause-kept c =
    subst (λ (n : ℕ). AreKept n c.args.kept.now) (sym (ap length c.load.ensures)) c.requires.kept

pub reduce_lazily-requires-clause-exact : goal.reduce_lazily-requires-clause-exact
reduce_lazily-requires-clause-exact c = c.requires.row_columns ∙ sym (ap length c.load.ensures)

pub reduce_lazily-requires-clause-extent : goal.reduce_lazily-requires-clause-extent
reduce_lazily-requires-clause-extent c =
    subst (λ (xs : List ℤ). IsExtent c.extent_of-extent.result.bound c.extent_of-extent.result.end
    xs) (sym c.load.ensures)
    c.extent_of-extent.ensures

pub reduce_exactly-requires-in-Column-clause-kept :
    goal.reduce_exactly-requires-in-Column-clause-kept
reduce_exactly-requires-in-Column-clause-kept c =
    subst (λ (n : ℕ). AreKept n c.args.kept.now)
    (sym (c.reduce_lazily.auto.exact ∙ c.requires.row_columns)) c.requires.kept

pub reduce_exactly-requires-in-Column-clause-fits :
    goal.reduce_exactly-requires-in-Column-clause-fits
reduce_exactly-requires-in-Column-clause-fits c =
    subst (λ (r : Reached). IsReachedWithin (length c.load.new.row) c.args.kept.now.log.items r
    c.reduce_lazily.new.row c.reduce_lazily.new.exact)
    c.in-Column.is c.in_ok-reduce_lazily.ensures.within

-- ---- what it answers

pub returns-then-extent-ge-GREATEST_BOUND-clause-wide :
    goal.returns-then-extent-ge-GREATEST_BOUND-clause-wide
returns-then-extent-ge-GREATEST_BOUND-clause-wide c =
    λ e.
    c.reduce_exactly.ensures.wide e
    (inserted (length c.args.given.now) (rows_of c.args.kept.now)
    c.args.given.now)
    (start_at (rows_of c.args.kept.now) c.args.given.now c.copy_from_slice.new.self
    c.args.reduce.now.items
    c.copy_from_slice.ensures.after c.requires.empty)

pub returns-in-Column-clause-wide : goal.returns-in-Column-clause-wide
returns-in-Column-clause-wide c =
    λ e.
    c.reduce_exactly-in-Column.ensures.wide e
    (inserted (length c.args.given.now) (rows_of c.args.kept.now)
    c.args.given.now)
    (reached_column (rows_of c.args.kept.now) c.args.given.now c.load.new.row
    c.reduce_lazily.new.row c.reduce_lazily.new.exact
    c.in_ok-reduce_lazily.field-0 c.in-Column.column c.reduce_lazily.new.reduce.items c.load.ensures
    c.in-Column.is
    c.in_ok-reduce_lazily.ensures.reached)

pub returns-then-extent-ge-GREATEST_BOUND-clause-left :
    goal.returns-then-extent-ge-GREATEST_BOUND-clause-left
returns-then-extent-ge-GREATEST_BOUND-clause-left c =
    if_ok_more c.reduce_exactly.result _ _ c.reduce_exactly.ensures.done
    (λ left h. (h (inserted (length c.args.given.now) (rows_of c.args.kept.now)
    c.args.given.now)
    (start_at (rows_of c.args.kept.now) c.args.given.now c.copy_from_slice.new.self
    c.args.reduce.now.items
    c.copy_from_slice.ensures.after c.requires.empty)).left_is)

pub returns-then-extent-ge-GREATEST_BOUND-clause-narrow :
    goal.returns-then-extent-ge-GREATEST_BOUND-clause-narrow
returns-then-extent-ge-GREATEST_BOUND-clause-narrow c =
    on_ok_more c.reduce_exactly.result _ _ c.reduce_exactly.ensures.done
    (λ left h. (h (inserted (length c.args.given.now) (rows_of c.args.kept.now)
    c.args.given.now)
    (start_at (rows_of c.args.kept.now) c.args.given.now c.copy_from_slice.new.self
    c.args.reduce.now.items
    c.copy_from_slice.ensures.after c.requires.empty)).narrow)

pub returns-in-Column-clause-left : goal.returns-in-Column-clause-left
returns-in-Column-clause-left c =
    if_ok_more c.reduce_exactly-in-Column.result _ _ c.reduce_exactly-in-Column.ensures.done
    (λ left h. (h (inserted (length c.args.given.now) (rows_of c.args.kept.now)
    c.args.given.now)
    (reached_column (rows_of c.args.kept.now) c.args.given.now c.load.new.row
    c.reduce_lazily.new.row c.reduce_lazily.new.exact
    c.in_ok-reduce_lazily.field-0 c.in-Column.column c.reduce_lazily.new.reduce.items c.load.ensures
    c.in-Column.is
    c.in_ok-reduce_lazily.ensures.reached)).left_is)

pub returns-in-Column-clause-narrow : goal.returns-in-Column-clause-narrow
returns-in-Column-clause-narrow c =
    on_ok_more c.reduce_exactly-in-Column.result _ _ c.reduce_exactly-in-Column.ensures.done
    (λ left h. (h (inserted (length c.args.given.now) (rows_of c.args.kept.now)
    c.args.given.now)
    (reached_column (rows_of c.args.kept.now) c.args.given.now c.load.new.row
    c.reduce_lazily.new.row c.reduce_lazily.new.exact
    c.in_ok-reduce_lazily.field-0 c.in-Column.column c.reduce_lazily.new.reduce.items c.load.ensures
    c.in-Column.is
    c.in_ok-reduce_lazily.ensures.reached)).narrow)

pub returns-in_err-reduce_lazily-clause-left : goal.returns-in_err-reduce_lazily-clause-left
returns-in_err-reduce_lazily-clause-left c =
    rw (err_from_is_err_and c.from_residual.result c.from_residual.ensures.1).1 tt

pub returns-in_err-reduce_lazily-clause-within : goal.returns-in_err-reduce_lazily-clause-within
returns-in_err-reduce_lazily-clause-within c =
    rw (err_from_is_err_and c.from_residual.result c.from_residual.ensures.1).1 tt

pub returns-in_err-reduce_lazily-clause-fits : goal.returns-in_err-reduce_lazily-clause-fits
returns-in_err-reduce_lazily-clause-fits c =
    rw (err_from_is_err_and c.from_residual.result c.from_residual.ensures.1).1 tt

pub returns-in_err-reduce_lazily-clause-narrow : goal.returns-in_err-reduce_lazily-clause-narrow
returns-in_err-reduce_lazily-clause-narrow c =
    rw (err_from_is_err_and c.from_residual.result c.from_residual.ensures.1).1 tt
