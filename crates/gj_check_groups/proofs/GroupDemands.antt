-- The demands on groups: when all hold, and which is the first that fails.
use Rattle.std.proofs.Common.{◌≡◌, ℕ, ◌+◌, ◌<◌, ℤ, List, [], ◌∷◌, ◌++◌, All, length, take, get_or, refl, sym, ap, subst, ◌∙◌}
use Rattle.gj_lemmas.specs.FirstThatFails.{IsFirstFailing}
use Rattle.gj_shape.specs.FunctionData.{FunctionData}
use Rattle.gj_proof.specs.declared.numbers.Numbers.{Numbers}
use Rattle.gj_proof.specs.declared.pivot.PivotRow.{PivotRow}
use Rattle.gj_proof.specs.PresentRows.{arithmetic_of, begun_row, rows_before_by}
use Rattle.gj_proof.specs.ProofText.{OwnLine, group_line, pivot_line, reduction_lines, group_lines}
use Rattle.gj_proof.specs.ProofText.ProofLine.{group, group_pivot}
use Rattle.gj_proof.specs.Rules.{Demand, AtIndex, MeetsRow, step_demands_by, group_demands_by}
use Rattle.gj_proof.specs.Rules.Demand.{row, pivot}
use Rattle.gj_check_groups.specs.declared.failure.GroupFailure.{GroupFailure}
use Rattle.gj_check_groups.specs.Groups.{GroupHolds, IsFirstGroupFailure}
use Rattle.gj_check_groups.specs.GroupOutcomes.{FailsGroup}
use Rattle.gj_check_groups.proofs.GroupKinds.{GroupKind, AreDemandsOn, kind_demands, kind_lines, all_demands_hold, first_failure}
use Rattle.gj_check_groups.proofs.GroupsInTurn.{MeetsBehind, count_of}

-- the groups of a proof for a function
abbrev kind : Numbers → FunctionData → (ℕ → ℕ) → ℕ → GroupKind PivotRow
kind numbers f component n = record {
  steps_of = λ one. one.reduce;
  pivot_of = λ one. one.pivot;
  text_of = λ one. group_line one.name;
  begun = λ one. begun_row (arithmetic_of numbers) f component n one.name;
  meets = λ one. MeetsRow f one.name;
  kept = λ before. rows_before_by (arithmetic_of numbers) f component n before;
}

on_groups : (numbers : Numbers) (f : FunctionData) (component : ℕ → ℕ) (n : ℕ)
    (rows : List PivotRow) → AreDemandsOn (kind numbers f component n) numbers n rows
    (GroupHolds numbers f component n rows)
on_groups numbers f component n rows = record {
  on_row = λ g. (λ h. h, λ h. h);
  on_step = λ g r. (λ h. h, λ h. h);
  on_size = λ g r. (λ h. h, λ h. h);
  on_pivot = λ g. (λ h. h, λ h. h);
}

same_demands : (numbers : Numbers) (f : FunctionData) (component : ℕ → ℕ) (n g : ℕ)
    (rows : List PivotRow) → kind_demands (kind numbers f component n) numbers g rows
    ≡ group_demands_by numbers g rows
same_demands numbers f component n g [] = refl
same_demands numbers f component n g (one ∷ rows) =
    ap (λ ds. row g ∷ step_demands_by numbers g 0 one.reduce ++ pivot g ∷ ds)
    (same_demands numbers f component n (g + 1) rows)

same_lines : (numbers : Numbers) (f : FunctionData) (component : ℕ → ℕ) (n g : ℕ)
    (rows : List PivotRow) → kind_lines (kind numbers f component n) g rows ≡ group_lines g rows
same_lines numbers f component n g [] = refl
same_lines numbers f component n g (one ∷ rows) =
    ap (λ ls. let first : OwnLine = record { name = group g; bytes = group_line one.name } in
    let last : OwnLine = record { name = group_pivot g; bytes = pivot_line one.pivot } in
    first ∷ reduction_lines g 0 one.reduce ++ last ∷ ls)
    (same_lines numbers f component n (g + 1) rows)

pub all_groups_hold : (numbers : Numbers) (f : FunctionData) (component : ℕ → ℕ) (n : ℕ)
    (rows : List PivotRow) →
    ((g : ℕ) → AtIndex rows g (MeetsBehind numbers f component n)) →
    All (GroupHolds numbers f component n rows) (group_demands_by numbers 0 rows)
all_groups_hold numbers f component n rows h =
    subst (All (GroupHolds numbers f component n rows)) (same_demands numbers f component n 0 rows)
    (all_demands_hold (kind numbers f component n) numbers n rows
    (GroupHolds numbers f component n rows) (on_groups numbers f component n rows) h)

pub first_group_failure : (numbers : Numbers) (f : FunctionData) (component : ℕ → ℕ) (n : ℕ)
    (rows : List PivotRow) (g above below : ℕ) (one : PivotRow)
    (begun : List ℤ) (failure : GroupFailure) →
    ((i : ℕ) → i < g → AtIndex rows i (MeetsBehind numbers f component n)) →
    above ≡ count_of (take g rows) → g < length rows → one ≡ get_or rows g one →
    begun ≡ begun_row (arithmetic_of numbers) f component n one.name →
    FailsGroup numbers f n (rows_before_by (arithmetic_of numbers) f component n (take g rows))
    begun one failure → below ≡ above + failure.below →
    IsFirstGroupFailure numbers f component n rows (record { below = below; rule = failure.rule })
first_group_failure numbers f component n rows g above below one begun failure meet above_is within
    is begun_is fails below_is =
    let H = GroupHolds numbers f component n rows in
    let h = first_failure (kind numbers f component n) numbers n rows H
    (on_groups numbers f component n rows) g above below one failure meet above_is within is
    (subst (λ (b : List ℤ). FailsGroup numbers f n
    (rows_before_by (arithmetic_of numbers) f component n (take g rows)) b one failure) begun_is
    fails) below_is in
    record {
      before = h.before;
      demand = h.demand;
      first = subst (λ (ds : List Demand). IsFirstFailing (All H) ds h.before h.demand)
          (same_demands numbers f component n 0 rows) h.first;
      rule_is = h.rule_is;
      above = h.above;
      line = h.line;
      under = h.under;
      place = sym (same_lines numbers f component n 0 rows) ∙ h.place;
      line_is = h.line_is;
      below = h.below;
    }
