use Rattle.std.proofs.Common.{◌≡◌, ◌+◌, List, [], ◌∷◌, ◌++◌, length, refl, sym, ap, ap₂, subst, ◌∙◌, arith}
use Rattle.gj_elim.specs.Lazy.{IsExtent}
use Rattle.gj_elim.proofs.KeptTables.{places_more, pushed, line_pushed}
use Rattle.gj_frac.proofs.Refusals.{on_err}
use Rattle.std.proofs.lemmas.Result.{err_from_is_err_and}
use Rattle.gj_sparse_elim.specs.declared.entry.Entry.{Entry}
use Rattle.gj_sparse_elim.specs.Sparse.{dense}
use Rattle.gj_sparse_elim.proofs.KeptEntries.{lines_too, entries_pushed, sparse_pushed, bounds_more, still_kept, still_rows}
use Rattle.gj_sparse_elim.specs.Rows.{sparse_rows}
use Rattle.gj_theory.proofs.Triangular.{rank_at_most}
use Rattle.gj_elim.proofs.Keeping.{length-kept_rows}
use Rattle.std.proofs.lemmas.List.{length_push}
use Rattle.gj_sparse_elim.proofs.keep.keep.Goals as goal

pub overflow_cast-place : goal.overflow_cast-place
overflow_cast-place c =
    let k = c.args.kept.now in
    let n = length k.places.items in
    let most = rank_at_most n (sparse_rows n k) c.requires.kept.triangular in
    let same = length-kept_rows k.log.items _
    (lines_too n k.log.items k.rows.items c.requires.kept.lines) in
    let narrow = c.requires.kept.narrow in
    let len = c.len-place.ensures in
    let ok = k.log.ok.0 in
    omega arith

row_pushed : (old old' new : List (List Entry)) (row row' : List Entry) → new ≡ old' ++ row ∷ [] →
    old' ≡ old → row ≡ row' →
    new ≡ old ++ row' ∷ []
row_pushed old old' new row row' e f g = e
    ∙ ap₂ (λ (xs : List (List Entry)) (r : List Entry). xs ++ r ∷ []) f g

pub returns-clause-line : goal.returns-clause-line
returns-clause-line c =
    line_pushed _ _ _ _ _ _ _ c.push_reserved.ensures.items c.in_ok-reserve.ensures.items
    (c.of.ensures ∙ c.in_ok-reduce.ensures.items)

pub returns-clause-entries : goal.returns-clause-entries
returns-clause-entries c =
    entries_pushed _ _ c.args.kept.now.rows.items _ c.args.entries _
    (row_pushed _ _ _ _ _ c.push_reserved-2.ensures.items c.in_ok-reserve-2.ensures.items refl)
    refl refl

pub returns-clause-kept : goal.returns-clause-kept
returns-clause-kept c triangular =
    let k = c.args.kept.now in
    let n = length k.places.items in
    let log_is = pushed _ _ _ _ c.push_reserved.ensures.items c.in_ok-reserve.ensures.items in
    let rows_is = row_pushed _ _ _ c.args.entries _ c.push_reserved-2.ensures.items
    c.in_ok-reserve-2.ensures.items refl in
    record {
      lines = ap length log_is ∙ length_push k.log.items _ ∙ ap (λ m. m + 1) c.requires.kept.lines
          ∙ sym (ap length rows_is ∙ length_push k.rows.items c.args.entries);
      sparse = sparse_pushed n n k.rows.items _ c.args.entries c.requires.kept.sparse rows_is refl
          c.requires.entries;
      triangular = triangular;
      places = places_more n k.log.items c.push_reserved.new.self.items k.places.items _
          c.len-place.result c.requires.kept.places c.requires.free
          (c.len-place.ensures ∙ k.log.ok.0) log_is;
      bounds = bounds_more n k.rows.items _ k.bounds.items _ c.args.entries
          c.bound_of-bound.result c.requires.kept.bounds rows_is
          (pushed _ _ _ _ c.push_reserved-3.ensures.items c.in_ok-reserve-3.ensures.items)
          (subst (λ (xs : List Entry). IsExtent c.bound_of-bound.result n (dense n xs))
          c.as_slice.ensures (c.bound_of-bound.ensures n));
      narrow = c.requires.kept.narrow;
    }

pub returns-in_err-reduce : goal.returns-in_err-reduce
returns-in_err-reduce c =
    let failed = err_from_is_err_and c.from_residual.result
    c.from_residual.ensures.1 in record {
      line = rw failed.1 tt;
      entries = rw failed.1 tt;
      kept = rw failed.1 tt;
      unchanged = on_err _ _
          (still_kept (length c.args.kept.now.places.items) c.args.kept.now _
          refl refl refl refl c.requires.kept);
      same = on_err _ _ (still_rows _ _ _ _ refl refl);
    }

pub returns-in_err-reserve : goal.returns-in_err-reserve
returns-in_err-reserve c =
    let failed = err_from_is_err_and c.from_residual-in_err-reserve.result
    c.from_residual-in_err-reserve.ensures.1 in record {
      line = rw failed.1 tt;
      entries = rw failed.1 tt;
      kept = rw failed.1 tt;
      unchanged = on_err _ _
          (still_kept (length c.args.kept.now.places.items) c.args.kept.now _
          c.in_err-reserve.ensures.items refl refl refl c.requires.kept);
      same = on_err _ _ (still_rows _ _ _ _ c.in_err-reserve.ensures.items refl);
    }

pub returns-in_err-reserve-2 : goal.returns-in_err-reserve-2
returns-in_err-reserve-2 c =
    let failed = err_from_is_err_and c.from_residual-in_err-reserve-2.result
    c.from_residual-in_err-reserve-2.ensures.1 in record {
      line = rw failed.1 tt;
      entries = rw failed.1 tt;
      kept = rw failed.1 tt;
      unchanged = on_err _ _
          (still_kept (length c.args.kept.now.places.items) c.args.kept.now _
          c.in_ok-reserve.ensures.items c.in_err-reserve-2.ensures.items refl refl c.requires.kept);
      same = on_err _ _ (still_rows _ _ _ _ c.in_ok-reserve.ensures.items
          c.in_err-reserve-2.ensures.items);
    }

pub returns-in_err-reserve-3 : goal.returns-in_err-reserve-3
returns-in_err-reserve-3 c =
    let failed = err_from_is_err_and c.from_residual-in_err-reserve-3.result
    c.from_residual-in_err-reserve-3.ensures.1 in record {
      line = rw failed.1 tt;
      entries = rw failed.1 tt;
      kept = rw failed.1 tt;
      unchanged = on_err _ _
          (still_kept (length c.args.kept.now.places.items) c.args.kept.now _
          c.in_ok-reserve.ensures.items c.in_ok-reserve-2.ensures.items
          c.in_err-reserve-3.ensures.items refl c.requires.kept);
      same = on_err _ _ (still_rows _ _ _ _ c.in_ok-reserve.ensures.items
          c.in_ok-reserve-2.ensures.items);
    }
