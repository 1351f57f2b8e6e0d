-- The rows of a table that are still to come (own).
use Rattle.std.specs.Prelude.{ℕ, ℤ, ◌≡◌, ◌+◌, ◌-◌, ◌<◌, ◌≤◌, List, [], ◌∷◌, ◌++◌, Option, None, Some, map, flat_map, filter, length}
use Rattle.std.specs.List.{range_with_len}
use Rattle.gj_shape.specs.Limits.{greatest_order}
use Rattle.gj_shape.specs.FunctionData.{at}
use Rattle.gj_residue.specs.Source.{RowsToCome}
use Rattle.gj_group.specs.GroupRows.{entry_row, sum_row, is_tight_pair, sum_rows_with, group_rows}
use Rattle.gj_group.specs.declared.table_rows.Upcoming.{Upcoming}
use Rattle.gj_group.specs.declared.table_rows.Upcoming.TheVariants.{Start, Place, Pair}
use Rattle.gj_group.specs.declared.table_rows.GroupRows.TheInside.{Inside}

-- the tight pairs (a, b) with b from `from` to below n
abbrev pub tight_in_row : (ℕ → ℤ) → ℕ → ℕ → ℕ → List ℕ
tight_in_row t n a from = filter (is_tight_pair t a) (range_with_len from (n - from))

-- the rows of the tight pairs with a from `first` on
abbrev pub rows_from : (ℕ → ℤ) → ℕ → ℕ → List (List ℤ)
rows_from t n first = flat_map (sum_rows_with t n) (range_with_len first (n - first))

-- the rows of the tight pairs from (a, from) on
abbrev pub pair_rows : (ℕ → ℤ) → ℕ → ℕ → ℕ → List (List ℤ)
pair_rows t n a from = map (sum_row n a) (tight_in_row t n a from) ++ rows_from t n (a + 1)

-- the first tight pair from (a, from) on, if there is one
abbrev pub IsNextPair : (ℕ → ℤ) → ℕ → ℕ → ℕ → Option (ℕ × ℕ) → Type 0
IsNextPair t n a from None = pair_rows t n a from ≡ []
IsNextPair t n a from (Some p) =
    (1 ≤ p.0) × (p.0 ≤ p.1) × (p.1 < n)
    × (pair_rows t n a from ≡ sum_row n p.0 p.1 ∷ pair_rows t n p.0 (p.1 + 1))

-- the rows from the next one on
abbrev pub upcoming_rows : (ℕ → ℤ) → ℕ → ℕ → Upcoming → List (List ℤ)
upcoming_rows t n k Start = group_rows t n k
upcoming_rows t n k Place = entry_row n k ∷ rows_from t n 1
upcoming_rows t n k (Pair a from) = pair_rows t n a from

abbrev pub to_come : Inside → RowsToCome
to_come s = record {
  all = group_rows (at s.values.items) (length s.values.items) s.place;
  left = upcoming_rows (at s.values.items) (length s.values.items) s.place s.upcoming;
}

-- the next pair is one with 1 ≤ a, or past the last
abbrev pub IsUpcomingWithin : ℕ → Upcoming → Type 0
IsUpcomingWithin n Start = Unit {0}
IsUpcomingWithin n Place = Unit {0}
IsUpcomingWithin n (Pair a from) = (1 ≤ a) × (a ≤ from) × (a ≤ n) × (from ≤ n)

-- there are two entries or more, the place is an index, and the next pair within the table
pub record AreGroupRows (s : Inside) : Type 0 where
  pub some : 2 ≤ length s.values.items
  pub place : s.place < length s.values.items
  pub few : length s.values.items ≤ greatest_order
  pub upcoming : IsUpcomingWithin (length s.values.items) s.upcoming
