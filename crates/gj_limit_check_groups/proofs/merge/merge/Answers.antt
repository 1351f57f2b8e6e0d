use Rattle.std.proofs.Common.{rules, ℕ, ◌+◌, ◌<◌, ◌≤◌, min, ◌⊎◌, inl, inr, ◌≡◌, ◌∙◌, sym, subst₂, arith}
use Rattle.std.specs.Prelude.{vec_len}
use Rattle.std.proofs.lemmas.Bool.{cases_lt}
use Rattle.std.proofs.lemmas.Int.{to_z-of_z}
use mir.Syntax.{w128}
use Rattle.gj_frac.proofs.Refusals.{on_err}
use Rattle.gj_limit_check_groups.specs.Steps.{CanStep}
use Rattle.gj_limit_check_groups.proofs.MergedRows.{IsMerged, merged_past, turn, merged_more, merged_value, merged_narrow, merged_wide}
use Rattle.gj_limit_check_groups.proofs.merge.merge.Goals as goal

-- both rows are read to their ends
at_end : (c : goal.Then-column-columns) →
    IsMerged c.args.step c.args.columns c.args.kept.now c.args.row.now
    c.entries.next.items c.entries.i c.entries.j c.args.columns
at_end c =
    let l = c.entries in
    let (a, so_far) = l.invariant.merged in
    merged_past c.args.step c.args.columns c.args.kept.now c.args.row.now l.next.items l.i l.j a
    c.next_column.result c.next_column-in-entries.result c.min-column.result so_far
    record { entry = c.next_column.ensures.entry; none = c.next_column.ensures.none }
    record {
      entry = c.next_column-in-entries.ensures.entry;
      none = c.next_column-in-entries.ensures.none;
    }
    c.min-column.ensures c.if-column-columns.true

pub returns-then-column-columns-clause-sparse : goal.returns-then-column-columns-clause-sparse
returns-then-column-columns-clause-sparse c =
    let l = c.entries in
    (merged_value c.args.step c.args.columns c.args.kept.now c.args.row.now l.next.items l.i l.j
    (at_end c)).0

pub returns-then-column-columns-clause-value : goal.returns-then-column-columns-clause-value
returns-then-column-columns-clause-value c =
    let l = c.entries in
    (merged_value c.args.step c.args.columns c.args.kept.now c.args.row.now l.next.items l.i l.j
    (at_end c)).1

pub returns-then-column-columns-clause-narrow : goal.returns-then-column-columns-clause-narrow
returns-then-column-columns-clause-narrow c =
    let l = c.entries in
    merged_narrow c.args.step c.args.columns c.args.kept.now c.args.row.now l.next.items l.i l.j
    (at_end c)

pub entry_after-requires : goal.entry_after-requires
entry_after-requires c =
    let l = c.entries in
    let (a, so_far) = l.invariant.merged in
    let here = turn c.args.step c.args.columns c.args.kept.now c.args.row.now l.next.items l.i l.j a
    c.next_column.result c.next_column-in-entries.result c.min-column.result c.reach-x.result.factor
    c.reach-x.result.behind
    c.reach-e.result.factor c.reach-e.result.behind so_far
    record { entry = c.next_column.ensures.entry; none = c.next_column.ensures.none }
    record {
      entry = c.next_column-in-entries.ensures.entry;
      none = c.next_column-in-entries.ensures.none;
    }
    c.min-column.ensures c.if-column-columns.false c.reach-x.ensures c.reach-e.ensures in
    subst₂ (CanStep c.args.step)
    (sym (to_z-of_z w128 c.reach-x.result.factor (search rules) ∙ here.row_taken.factor_is))
    (sym (to_z-of_z w128 c.reach-e.result.factor (search rules) ∙ here.kept_taken.factor_is))
    (c.requires.numbers c.min-column.result)

pub returns-in_err-factor-clause-wide : goal.returns-in_err-factor-clause-wide
returns-in_err-factor-clause-wide c =
    let l = c.entries in
    let (a, so_far) = l.invariant.merged in
    let here = turn c.args.step c.args.columns c.args.kept.now c.args.row.now l.next.items l.i l.j a
    c.next_column.result c.next_column-in-entries.result c.min-column.result c.reach-x.result.factor
    c.reach-x.result.behind
    c.reach-e.result.factor c.reach-e.result.behind so_far
    record { entry = c.next_column.ensures.entry; none = c.next_column.ensures.none }
    record {
      entry = c.next_column-in-entries.ensures.entry;
      none = c.next_column-in-entries.ensures.none;
    }
    c.min-column.ensures c.if-column-columns.false c.reach-x.ensures c.reach-e.ensures in
    let x = to_z-of_z w128 c.reach-x.result.factor (search rules) in
    let e = to_z-of_z w128 c.reach-e.result.factor (search rules) in
    on_err _ _
    (merged_wide c.args.step c.args.columns c.args.kept.now c.args.row.now l.next.items l.i l.j
    c.min-column.result _ _
    here.at c.if-column-columns.false (x ∙ here.row_taken.factor_is) (e ∙ here.kept_taken.factor_is)
    c.in_err-factor.ensures.wide)

-- one of both rows goes on
counted : (i j i' j' c d m count after : ℕ) → m ≡ min c d → i ≤ i' → j ≤ j' → (m ≡ c → i' ≡ i + 1) →
    (m ≡ d → j' ≡ j + 1) →
    count ≤ i + j → after ≤ count + 1 → after ≤ i' + j'
counted i j i' j' c d m count after is on on' next next' few more = by_order (cases_lt c d)
  where
    by_order : (c < d) ⊎ (d ≤ c) → after ≤ i' + j'
    by_order (inl before) = let one = next (omega arith) in omega arith
    by_order (inr from) = let one = next' (omega arith) in omega arith

pub entries-preserved : goal.entries-preserved
entries-preserved c =
    let l = c.entries in
    let (a, so_far) = l.invariant.merged in
    let here = turn c.args.step c.args.columns c.args.kept.now c.args.row.now l.next.items l.i l.j a
    c.next_column.result c.next_column-in-entries.result c.min-column.result c.reach-x.result.factor
    c.reach-x.result.behind
    c.reach-e.result.factor c.reach-e.result.behind so_far
    record { entry = c.next_column.ensures.entry; none = c.next_column.ensures.none }
    record {
      entry = c.next_column-in-entries.ensures.entry;
      none = c.next_column-in-entries.ensures.none;
    }
    c.min-column.ensures c.if-column-columns.false c.reach-x.ensures c.reach-e.ensures in
    let x = to_z-of_z w128 c.reach-x.result.factor (search rules) in
    let e = to_z-of_z w128 c.reach-e.result.factor (search rules) in
    let z = to_z-of_z w128 c.in_ok-factor.factor (search rules) in
    record {
      merged = (
        c.min-column.result + 1,
        merged_more c.args.step c.args.columns c.args.kept.now c.args.row.now l.next.items
            c.push_factor.new.row.items l.i l.j
            c.min-column.result c.next_column.result c.next_column-in-entries.result
            c.reach-x.result.behind c.reach-e.result.behind
            c.reach-x.result.factor c.reach-e.result.factor c.in_ok-factor.factor here.at
            c.if-column-columns.false
            here.row_taken here.kept_taken (simp (x, e) at c.in_ok-factor.ensures.value)
            (simp (x, e) at c.in_ok-factor.ensures.fits)
            (simp z at c.push_factor.ensures.zero) (simp z at c.push_factor.ensures.some),
      );
      i_within = here.row_taken.within l.invariant.i_within;
      j_within = here.kept_taken.within l.invariant.j_within;
      few = counted l.i l.j c.reach-x.result.behind c.reach-e.result.behind c.next_column.result
          c.next_column-in-entries.result
          c.min-column.result (vec_len l.next) (vec_len c.push_factor.new.row) c.min-column.ensures
          here.row_taken.least
          here.kept_taken.least here.row_taken.onward here.kept_taken.onward l.invariant.few
          c.push_factor.ensures.len;
      room = omega (arith, c.push_factor.ensures.capacity);
    }
