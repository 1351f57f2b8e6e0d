use Rattle.std.proofs.Common.{inl, inr, sym, ◌∙◌, [], ◌≡◌, ◌∷◌, ◌+◌, List, Option, MatchOption, take, drop, refl, subst}
use Rattle.gj_fields.specs.Rational.{rational}
use Rattle.gj_problem.specs.declared.problem.Entry.{Entry}
use Rattle.gj_problem.proofs.AddedSums.{sum_value}
use Rattle.gj_problem.proofs.Prefixes.{split_at}
use Rattle.gj_problem.specs.declared.rounding.Moved.{Moved}
use Rattle.gj_problem.specs.RoundedCuts.{lower_of, upper_of, IsMoved, IsFreeEntry, IsFirstFreeEntry}
use Rattle.gj_problem.proofs.MovedEntries.{AreMovedTo, none_moved, one_moved, none_free_in}
use Rattle.std.proofs.lemmas.List.{take_all}
use Rattle.gj_problem.specs.RoundedCuts.{AreMoved}
use Rattle.gj_problem.proofs.WideRoundings.{no_more}
use Rattle.gj_problem.proofs.NarrowRoundings.{HasWideEntry, narrow_of_none, narrow_next, narrow_moved_entry, narrow_rounding, narrow_to_free}
use Rattle.gj_problem.proofs.rounding.rounded_cut.Goals as goal

pub loop-entry-init : goal.loop-entry-init
loop-entry-init c = (
  none_moved c.args.problem.now c.args.grid
      (rational c.args.cut.now.right) c.new-entries.result.items c.new-entries.ensures.items,
  narrow_of_none c.args.problem.now c.args.grid c.args.cut.now.right,
)

pub loop-entry-preserved : goal.loop-entry-preserved
loop-entry-preserved c =
    let p = c.args.problem.now in
    let n = c.args.grid in
    let e = c.entry-item.result in
    let moved = c.in-Some.moved in
    let f : Entry = record { column = e.column; value = moved.value } in
    let is : IsMoved n (lower_of p e.column) (upper_of p e.column) (rational e.value)
    (rational moved.value) (rational moved.shift) =
    subst
    (λ (made : Option Moved). MatchOption made (IsFreeEntry p n e)
    (λ m. IsMoved n (lower_of p e.column) (upper_of p e.column) (rational e.value)
    (rational m.value) (rational m.shift)))
    c.in-Some.is c.in_ok-moved.ensures.value in
    let es = c.as_slice-entry-items.result.now in
    let i = c.loop-entry.entry-index in
    let now = c.loop-entry.invariant.0 in (
      one_moved p n es i e f c.loop-entry.entries.items c.push_some.new.entries.items
          (rational c.args.cut.now.right) (rational c.loop-entry.right)
          (rational c.in_ok-right.right) (rational moved.shift) c.loop-entry-test.true
          c.entry-item.is c.in_ok-push_some.ensures.next
          (sum_value c.loop-entry.right moved.shift c.in_ok-right.right c.in_ok-right.ensures.value)
          refl is now,
      narrow_next p n es c.loop-entry.entries.items i c.args.cut.now.right c.loop-entry.right e
          c.loop-entry-test.true c.entry-item.is now
          c.loop-entry.invariant.1
          (narrow_moved_entry p n e c.loop-entry.right moved.value moved.shift
          c.in_ok-moved.ensures.narrow is c.in_ok-right.ensures.fits),
    )

pub returns-in_default-clause-is : goal.returns-in_default-clause-is
returns-in_default-clause-is c =
    let p = c.args.problem.now in
    let n = c.args.grid in
    let e = c.entry-item.result in
    let es = c.as_slice-entry-items.result.now in
    let i = c.loop-entry.entry-index in
    let first : IsFirstFreeEntry p n es e.column = record {
      before = take i es;
      entry = e;
      after = drop (i + 1) es;
      place = split_at es i e c.loop-entry-test.true c.entry-item.is;
      none_before = none_free_in p n (take i es) c.loop-entry.invariant.0.entries
          c.loop-entry.invariant.0.shifts c.loop-entry.invariant.0.moved;
      free = subst
          (λ (made : Option Moved). MatchOption made (IsFreeEntry p n e)
          (λ m. IsMoved n (lower_of p e.column) (upper_of p e.column) (rational e.value)
          (rational m.value) (rational m.shift)))
          c.in_default.is c.in_ok-moved.ensures.value;
      column = refl;
    } in
    subst (λ (xs : List Entry). IsFirstFreeEntry p n xs e.column) c.as_slice-entry-items.ensures
    first

pub returns-in_err-moved-clause-wide : goal.returns-in_err-moved-clause-wide
returns-in_err-moved-clause-wide c = λ fault.
    let p = c.args.problem.now in
    let n = c.args.grid in
    let e = c.entry-item.result in
    let es = c.as_slice-entry-items.result.now in
    let i = c.loop-entry.entry-index in
    record {
      before = take i es;
      after = e ∷ drop (i + 1) es;
      place = sym c.as_slice-entry-items.ensures
          ∙ split_at es i e c.loop-entry-test.true c.entry-item.is;
      moved = c.loop-entry.invariant.0.entries;
      shifts = c.loop-entry.invariant.0.shifts;
      moved_before = c.loop-entry.invariant.0.moved;
      right = c.loop-entry.right;
      right_is = c.loop-entry.invariant.0.right_is;
      wide = inr (e, drop (i + 1) es, refl, inl c.in_err-moved.ensures.wide);
    }

pub returns-in_err-right-clause-wide : goal.returns-in_err-right-clause-wide
returns-in_err-right-clause-wide c = λ fault.
    let p = c.args.problem.now in
    let n = c.args.grid in
    let e = c.entry-item.result in
    let es = c.as_slice-entry-items.result.now in
    let i = c.loop-entry.entry-index in
    let moved = c.in-Some.moved in
    let is : IsMoved n (lower_of p e.column) (upper_of p e.column) (rational e.value)
    (rational moved.value) (rational moved.shift) =
    subst
    (λ (made : Option Moved). MatchOption made (IsFreeEntry p n e)
    (λ m. IsMoved n (lower_of p e.column) (upper_of p e.column) (rational e.value)
    (rational m.value) (rational m.shift)))
    c.in-Some.is c.in_ok-moved.ensures.value in
    record {
      before = take i es;
      after = e ∷ drop (i + 1) es;
      place = sym c.as_slice-entry-items.ensures
          ∙ split_at es i e c.loop-entry-test.true c.entry-item.is;
      moved = c.loop-entry.invariant.0.entries;
      shifts = c.loop-entry.invariant.0.shifts;
      moved_before = c.loop-entry.invariant.0.moved;
      right = c.loop-entry.right;
      right_is = c.loop-entry.invariant.0.right_is;
      wide = inr (
        e,
        drop (i + 1) es,
        refl,
        inr
            (moved.value, moved.shift, is, c.in_err-right.ensures.wide),
      );
    }

pub returns-in_err-right-2-clause-wide : goal.returns-in_err-right-2-clause-wide
returns-in_err-right-2-clause-wide c = λ fault.
    let p = c.args.problem.now in
    let n = c.args.grid in
    let es = c.as_slice-entry-items.result.now in
    let i = c.loop-entry.entry-index in
    let all : take i es ≡ es = take_all i es c.loop-entry-test.false in
    record {
      before = es;
      after = [];
      place = sym c.as_slice-entry-items.ensures ∙ no_more es;
      moved = c.loop-entry.invariant.0.entries;
      shifts = c.loop-entry.invariant.0.shifts;
      moved_before = subst
          (λ (xs : List Entry). AreMoved p n xs c.loop-entry.invariant.0.entries
          c.loop-entry.invariant.0.shifts) all c.loop-entry.invariant.0.moved;
      right = c.loop-entry.right;
      right_is = c.loop-entry.invariant.0.right_is;
      wide = inl (refl, c.in_err-right-2.ensures.wide);
    }

pub returns-in_default-clause-narrow : goal.returns-in_default-clause-narrow
returns-in_default-clause-narrow c =
    let p = c.args.problem.now in
    let n = c.args.grid in
    let e = c.entry-item.result in
    let es = c.as_slice-entry-items.result.now in
    let i = c.loop-entry.entry-index in
    let free : IsFreeEntry p n e =
    subst
    (λ (made : Option Moved). MatchOption made (IsFreeEntry p n e)
    (λ m. IsMoved n (lower_of p e.column) (upper_of p e.column) (rational e.value)
    (rational m.value) (rational m.shift)))
    c.in_default.is c.in_ok-moved.ensures.value in
    narrow_to_free p n c.args.cut.now (take i es) c.loop-entry.entries.items
    (drop (i + 1) es) c.loop-entry.right e
    (sym c.as_slice-entry-items.ensures ∙ split_at es i e c.loop-entry-test.true c.entry-item.is)
    c.loop-entry.invariant.0 c.loop-entry.invariant.1
    c.in_ok-moved.ensures.narrow free

pub returns-clause-narrow : goal.returns-clause-narrow
returns-clause-narrow c =
    let p = c.args.problem.now in
    let n = c.args.grid in
    let q = c.args.cut.now in
    let fs = c.loop-entry.entries.items in
    let es = c.as_slice-entry-items.result.now in
    let i = c.loop-entry.entry-index in
    let all : take i es ≡ q.entries = take_all i es c.loop-entry-test.false
    ∙ c.as_slice-entry-items.ensures in
    narrow_rounding p n q fs c.loop-entry.right
    (subst (λ (xs : List Entry). AreMovedTo p n xs fs (rational q.right)
    (rational c.loop-entry.right)) all c.loop-entry.invariant.0)
    (subst (λ (xs : List Entry). HasWideEntry p n q.right xs → ⊥) all c.loop-entry.invariant.1)
    c.in_ok-right-2.ensures.narrow
