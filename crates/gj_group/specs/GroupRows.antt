-- The linear system for the entries of a perturbation of a table, one column for each entry:
-- Gomory's cyclic group problem, by the table alone (Gomory and Johnson 1972).
use Rattle.std.specs.Prelude.{ℕ, ℤ, pos, ◌+◌, ◌-◌, ◌%◌, ◌==◌, ◌+ℤ◌, ◌-ℤ◌, Bool, if◌then◌else◌, List, ◌∷◌, map, flat_map, filter, All}
use Rattle.std.specs.List.{range_with_len}
use Rattle.std.specs.Ordering.{int_eq}
use Rattle.gj_theory.specs.TriangularRows.{Solves}

-- 1 at c, else 0
abbrev pub one_at : ℕ → ℕ → ℤ
one_at c i = if i == c then pos 1 else pos 0

-- the row of n columns that says that the entry at c is 0
abbrev pub entry_row : ℕ → ℕ → List ℤ
entry_row n c = map (one_at c) (range_with_len 0 n)

-- the row that says that the entries at a and b add up to the entry at a + b, modulo n
abbrev pub sum_row : ℕ → ℕ → ℕ → List ℤ
sum_row n a b = map (λ i. one_at a i +ℤ one_at b i -ℤ one_at ((a + b) % n) i) (range_with_len 0 n)

-- the table is additive at the pair
abbrev pub is_tight_pair : (ℕ → ℤ) → ℕ → ℕ → Bool
is_tight_pair t a b = int_eq (t a +ℤ t b) (t (a + b))

-- the rows of the tight pairs (a, b) with a ≤ b < n, b ascending
abbrev pub sum_rows_with : (ℕ → ℤ) → ℕ → ℕ → List (List ℤ)
sum_rows_with t n a = map (sum_row n a) (filter (is_tight_pair t a) (range_with_len a (n - a)))

-- the rows in their order: the entries at 0 and at k, and the tight pairs (a, b) with 1 ≤ a ≤ b <
-- n, a ascending, inside it b
abbrev pub group_rows : (ℕ → ℤ) → ℕ → ℕ → List (List ℤ)
group_rows t n k = entry_row n 0 ∷ entry_row n k ∷ flat_map (sum_rows_with t n)
    (range_with_len 1 (n - 1))

-- the numbers solve all rows
abbrev pub SolveGroupRows : (ℕ → ℤ) → ℕ → ℕ → List ℤ → Type 0
SolveGroupRows t n k w = All (Solves w) (group_rows t n k)
