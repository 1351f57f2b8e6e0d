use Rattle.std.proofs.Common.{◌≡◌, ◌<◌, ℤ, List, length, refl, sym, ap, ap₂, subst, ◌∙◌, arith}
use Rattle.std.specs.Prelude.{All}
use Rattle.std.proofs.lemmas.List.{with_items_is}
use Rattle.gj_shape.specs.Elimination.{kept_entries}
use Rattle.gj_frac.specs.Fraction.{Fits}
use Rattle.gj_theory.proofs.Triangular.{rank_at_most}
use Rattle.gj_elim.specs.KeptRows.{kept_rows}
use Rattle.gj_elim.specs.Lazy.{IsExtent}
use Rattle.gj_elim.specs.Tables.{rows_of}
use Rattle.gj_elim.proofs.Keeping.{length-kept_rows, same_length, all_small}
use Rattle.gj_elim.proofs.KeptTables.{places_more, pushed, line_pushed, row_pushed, extents_more, still_kept}
use Rattle.gj_frac.proofs.Refusals.{on_err}
use Rattle.std.proofs.lemmas.Result.{err_from_is_err_and}
use Rattle.gj_elim.proofs.keep.keep.Goals as goal

pub make_kept-requires-clause-within : goal.make_kept-requires-clause-within
make_kept-requires-clause-within c =
    subst (λ (xs : List ℤ). c.args.origin.pivot < length xs)
    (sym (c.as_mut_slice.ensures.value ∙ c.in_ok-entries.ensures.items))
    c.requires.free.below

pub make_kept-requires-clause-fits : goal.make_kept-requires-clause-fits
make_kept-requires-clause-fits c =
    subst (λ (xs : List ℤ). All Fits xs)
    (sym (c.as_mut_slice.ensures.value ∙ c.in_ok-entries.ensures.items)) c.requires.fits

pub overflow_cast-place : goal.overflow_cast-place
overflow_cast-place c =
    let most = rank_at_most (length c.args.row.now) (rows_of c.args.kept.now)
    c.requires.kept.triangular in
    let same = length-kept_rows c.args.kept.now.log.items c.args.kept.now.rows.items
    c.requires.kept.lines in
    let narrow = c.requires.kept.narrow in
    let len = c.len-place.ensures in
    let ok = c.args.kept.now.log.ok.0 in
    omega arith

-- what is left of the row, as it is kept
left_is : (c : goal.After-kept-1) →
    c.make_kept.new.row ≡ kept_entries c.args.row.now c.args.origin.pivot
left_is c =
    c.make_kept.ensures.value
    ∙ ap (λ xs. kept_entries xs c.args.origin.pivot) (c.as_mut_slice.ensures.value
    ∙ c.in_ok-entries.ensures.items)

held : (c : goal.After-kept-1) → c.of-2.result ≡ c.make_kept.new.row
held c =
    c.of-2.ensures
    ∙ with_items_is c.in_ok-entries.entries c.make_kept.new.row
    (c.make_kept.auto.row ∙ ap length c.as_mut_slice.ensures.value
    ∙ sym c.in_ok-entries.entries.ok.0)

pub returns-clause-line : goal.returns-clause-line
returns-clause-line c =
    line_pushed _ _ _ _ _ _ _ c.push_reserved.ensures.items c.in_ok-reserve.ensures.items
    (c.of.ensures ∙ c.in_ok-reduce.ensures.items)

pub returns-clause-entries : goal.returns-clause-entries
returns-clause-entries c =
    row_pushed _ _ _ _ _ c.push_reserved-2.ensures.items c.in_ok-reserve-2.ensures.items
    (held c ∙ left_is c)

pub returns-clause-kept : goal.returns-clause-kept
returns-clause-kept c triangular =
    let k = c.args.kept.now in
    let log_is = pushed _ _ _ _ c.push_reserved.ensures.items c.in_ok-reserve.ensures.items in
    let rows_is = row_pushed _ _ _ _ _ c.push_reserved-2.ensures.items
    c.in_ok-reserve-2.ensures.items
    (held c) in
    record {
      lines = same_length _ _ _ _ _ _ c.requires.kept.lines log_is rows_is;
      triangular = triangular;
      fits = all_small _ _ _ c.requires.kept.fits rows_is c.make_kept.ensures.fits;
      places = places_more (length c.args.row.now) k.log.items c.push_reserved.new.self.items
          k.places.items _ c.len-place.result c.requires.kept.places c.requires.free
          (c.len-place.ensures ∙ k.log.ok.0) log_is;
      extents = extents_more k.rows.items _ k.extents.items _ c.make_kept.new.row
          c.extent_of-extent.result c.requires.kept.extents rows_is
          (pushed _ _ _ _ c.push_reserved-3.ensures.items c.in_ok-reserve-3.ensures.items)
          (subst (λ (xs : List ℤ). IsExtent c.extent_of-extent.result.bound
          c.extent_of-extent.result.end xs)
          (c.as_slice.ensures.value ∙ sym c.of-2.ensures ∙ held c) c.extent_of-extent.ensures);
      narrow = c.requires.kept.narrow;
    }

pub returns-in_err-entries : goal.returns-in_err-entries
returns-in_err-entries c =
    let failed = err_from_is_err_and c.from_residual.result
    c.from_residual.ensures.1 in record {
      line = rw failed.1 tt;
      entries = rw failed.1 tt;
      kept = rw failed.1 tt;
      unchanged = on_err _ _
          (still_kept (length c.args.row.now) c.args.kept.now _ refl refl refl refl
          c.requires.kept);
      same = on_err _ _ (ap₂ kept_rows refl refl);
    }

pub returns-in_err-reduce : goal.returns-in_err-reduce
returns-in_err-reduce c =
    let failed = err_from_is_err_and c.from_residual-in_err-reduce.result
    c.from_residual-in_err-reduce.ensures.1 in record {
      line = rw failed.1 tt;
      entries = rw failed.1 tt;
      kept = rw failed.1 tt;
      unchanged = on_err _ _
          (still_kept (length c.args.row.now) c.args.kept.now _ refl refl refl refl
          c.requires.kept);
      same = on_err _ _ (ap₂ kept_rows refl refl);
    }

pub returns-in_err-reserve : goal.returns-in_err-reserve
returns-in_err-reserve c =
    let failed = err_from_is_err_and c.from_residual-in_err-reserve.result
    c.from_residual-in_err-reserve.ensures.1 in record {
      line = rw failed.1 tt;
      entries = rw failed.1 tt;
      kept = rw failed.1 tt;
      unchanged = on_err _ _
          (still_kept (length c.args.row.now) c.args.kept.now _ c.in_err-reserve.ensures.items refl
          refl refl
          c.requires.kept);
      same = on_err _ _ (ap₂ kept_rows c.in_err-reserve.ensures.items refl);
    }

pub returns-in_err-reserve-2 : goal.returns-in_err-reserve-2
returns-in_err-reserve-2 c =
    let failed = err_from_is_err_and c.from_residual-in_err-reserve-2.result
    c.from_residual-in_err-reserve-2.ensures.1 in record {
      line = rw failed.1 tt;
      entries = rw failed.1 tt;
      kept = rw failed.1 tt;
      unchanged = on_err _ _
          (still_kept (length c.args.row.now) c.args.kept.now _ c.in_ok-reserve.ensures.items
          c.in_err-reserve-2.ensures.items refl refl
          c.requires.kept);
      same = on_err _ _ (ap₂ kept_rows c.in_ok-reserve.ensures.items
          c.in_err-reserve-2.ensures.items);
    }

pub returns-in_err-reserve-3 : goal.returns-in_err-reserve-3
returns-in_err-reserve-3 c =
    let failed = err_from_is_err_and c.from_residual-in_err-reserve-3.result
    c.from_residual-in_err-reserve-3.ensures.1 in record {
      line = rw failed.1 tt;
      entries = rw failed.1 tt;
      kept = rw failed.1 tt;
      unchanged = on_err _ _
          (still_kept (length c.args.row.now) c.args.kept.now _ c.in_ok-reserve.ensures.items
          c.in_ok-reserve-2.ensures.items c.in_err-reserve-3.ensures.items refl
          c.requires.kept);
      same = on_err _ _ (ap₂ kept_rows c.in_ok-reserve.ensures.items
          c.in_ok-reserve-2.ensures.items);
    }
