-- Rows as their entries (own).
use Rattle.std.specs.Prelude.{ℕ, ℤ, pos, ◌≢◌, ◌+◌, ◌*ℤ◌, ◌<◌, ◌≤◌, ◌==◌, if◌then◌else◌, List, [], ◌∷◌, map}
use Rattle.std.specs.List.{range_with_len}
use Rattle.gj_frac.specs.Fraction.{Fits}
use Rattle.gj_shape.specs.SlopeRows.{total}
use Rattle.gj_sparse_elim.specs.declared.entry.Entry.{Entry}

-- the factor at a column, 0 if there is no entry
abbrev pub factor_at : List Entry → ℕ → ℤ
factor_at [] c = pos 0
factor_at (e ∷ row) c = if e.column == c then e.factor else factor_at row c

-- the row of n columns with these entries
unfoldable pub dense : ℕ → List Entry → List ℤ
dense n row = map (factor_at row) (range_with_len 0 n)

-- at one of the columns from one on and below n, with a factor that is not 0 and at most 2^127 - 1
-- in absolute value
pub record IsEntryWithin (from n : ℕ) (e : Entry) : Type 0 where
  pub behind : from ≤ e.column
  pub below : e.column < n
  pub some : e.factor ≢ pos 0
  pub fits : Fits e.factor

-- such entries, with ascending columns
abbrev pub AreSparseFrom : ℕ → ℕ → List Entry → Type 0
AreSparseFrom from n [] = Unit {0}
AreSparseFrom from n (e ∷ row) = IsEntryWithin from n e × AreSparseFrom (e.column + 1) n row

-- the entries that are not 0 of a row of n columns, with ascending columns
abbrev pub AreSparse : ℕ → List Entry → Type 0
AreSparse n row = AreSparseFrom 0 n row

-- the sum of the products of the entries with numbers for the columns
abbrev pub sum_of_entries : List Entry → (ℕ → ℤ) → ℤ
sum_of_entries row x = total (map (λ e. e.factor *ℤ x e.column) row)
