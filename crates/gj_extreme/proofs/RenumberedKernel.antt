-- The kernel does not look at the numbers of the kept rows.
use Rattle.std.proofs.Common.{◌≡◌, ℕ, zero, suc, Option, None, Some, ℤ, List, [], ◌∷◌, map, eqb, refl, ap, ◌∙◌}
use Rattle.std.specs.Prelude.{not, ◌||◌}
use Rattle.std.specs.List.{range_with_len, find, list_any}
use Rattle.std.proofs.Math.Path.{fun_ext}
use Rattle.gj_shape.specs.Elimination.{KeptRow, entries_of, row_with_pivot, marked_in_solving, solved_at, behind_numbers, solution_below, unit_row, free_column, solution_from, kernel}
use Rattle.gj_theory.specs.HandedOver.{renumbered}
use Rattle.gj_elim.specs.KeptRows.{log_row}
use Rattle.gj_extreme.specs.RowsToCome.{row_parts, AreLoggedRows}
use Rattle.gj_extreme.proofs.DecidedGroups.{plain, alike_entries}

same_plain : (numbers : List ℕ) (kept : List KeptRow) → map plain (map (renumbered numbers) kept)
    ≡ map plain kept
same_plain numbers [] = refl
same_plain numbers (k ∷ kept) = ap (λ ks. plain k ∷ ks) (same_plain numbers kept)

same_pivots : (numbers : List ℕ) (kept : List KeptRow) (c : ℕ) →
    list_any (λ k. eqb k.pivot c) (map (renumbered numbers) kept)
    ≡ list_any (λ k. eqb k.pivot c) kept
same_pivots numbers [] c = refl
same_pivots numbers (k ∷ kept) c = ap (λ b. eqb k.pivot c || b) (same_pivots numbers kept c)

same_free : (numbers : List ℕ) (n : ℕ) (kept : List KeptRow) →
    free_column n (map (renumbered numbers) kept) ≡ free_column n kept
same_free numbers n kept =
    ap (λ p. find p (range_with_len 0 n)) (fun_ext (λ c. ap not (same_pivots numbers kept c)))

same_below : (numbers : List ℕ) (kept : List KeptRow) (j : ℕ) (w : List ℤ) →
    solution_below (map (renumbered numbers) kept) j w ≡ solution_below kept j w
unfolding solution_below
same_below numbers kept zero w = refl
same_below numbers kept (suc j) w =
    ap (λ es. behind_numbers (marked_in_solving es j w)
    (solution_below (map (renumbered numbers) kept) j (solved_at es j w)))
    (alike_entries (map (renumbered numbers) kept) kept j (same_plain numbers kept))
    ∙ ap (behind_numbers (marked_in_solving (entries_of (row_with_pivot kept j)) j w))
    (same_below numbers kept j (solved_at (entries_of (row_with_pivot kept j)) j w))

same_from : (numbers : List ℕ) (n : ℕ) (kept : List KeptRow) (o : Option ℕ) →
    solution_from n (map (renumbered numbers) kept) o ≡ solution_from n kept o
unfolding solution_from
same_from numbers n kept None = refl
same_from numbers n kept (Some c) = ap Some (same_below numbers kept c (unit_row n c))

pub kernel_renumbered : (numbers : List ℕ) (n : ℕ) (kept : List KeptRow) →
    kernel n (map (renumbered numbers) kept) ≡ kernel n kept
kernel_renumbered numbers n kept =
    ap (solution_from n (map (renumbered numbers) kept)) (same_free numbers n kept)
    ∙ same_from numbers n kept (free_column n kept)

-- nor does the log tell them
pub lines_renumbered : (numbers : List ℕ) (kept : List KeptRow) →
    AreLoggedRows (map (renumbered numbers) kept) (map log_row kept)
lines_renumbered numbers [] = refl
lines_renumbered numbers (k ∷ kept) = ap (λ ls. row_parts k ∷ ls) (lines_renumbered numbers kept)

pub lines_of_log : (kept : List KeptRow) → AreLoggedRows kept (map log_row kept)
lines_of_log [] = refl
lines_of_log (k ∷ kept) = ap (λ ls. row_parts k ∷ ls) (lines_of_log kept)
