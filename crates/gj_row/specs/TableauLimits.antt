-- What a tableau of simplex rows may be (own).
use Rattle.std.specs.Prelude.{ℕ, pos, ◌≢◌, ◌<◌, ◌≤◌, List, ◌∷◌, ◌++◌, All, AllPairs, length, map, sum_by}
use Rattle.std.specs.List.Sorted.{IsStrictlyIncreasing}
use Rattle.gj_frac.specs.declared.Frac.{Frac}
use Rattle.gj_frac.specs.Fraction.{numerator}
use Rattle.gj_lex.specs.Name.{IsName}
use Rattle.gj_shape.specs.Limits.{greatest_number}
use Rattle.gj_shape.specs.Given.{AreWithin}
use Rattle.gj_row.specs.declared.tableau.Row.{Row}
use Rattle.gj_row.specs.declared.tableau.Tableau.{Tableau}

-- how many columns, how many rows and how many entries that are not 0 a tableau has at most
abbrev pub most_columns : ℕ
most_columns = 10000

abbrev pub most_rows : ℕ
most_rows = 10000

abbrev pub most_entries : ℕ
most_entries = 100000

-- at most 2^31 in absolute value each, with a common denominator from 1 to 2^31 - 1
abbrev pub AreWithinLimits : List Frac → Type 0
AreWithinLimits numbers = AreWithin greatest_number numbers

-- the right side and the entries that are not 0
abbrev pub numbers_of : Row → List Frac
numbers_of row = row.rhs ∷ map (λ e. e.value) row.entries

-- a row of a tableau with so many columns: its numbers are within the limits, and its entries are
-- those that are not 0, in the order of their columns
pub record IsRowWithinLimits (columns : ℕ) (row : Row) : Type 0 where
  pub numbers : AreWithinLimits (numbers_of row)
  pub no_zero : All (λ e. numerator e.value ≢ pos 0) row.entries
  pub ascending : IsStrictlyIncreasing (map (λ e. e.column) row.entries)
  pub below : All (λ e. e.column < columns) row.entries

-- the names of the columns, and then of the basic variables
abbrev pub names_of : Tableau → List (List ℕ)
names_of t = t.columns ++ map (λ row. row.basic) t.rows

-- how many entries are not 0
abbrev pub entry_count : Tableau → ℕ
entry_count t = sum_by (λ row. length row.entries) t.rows

-- names that all differ
pub record AreNames (names : List (List ℕ)) : Type 0 where
  pub valid : All IsName names
  pub differ : AllPairs (λ a b. a ≢ b) names

-- at most 10,000 columns, 10,000 rows and 100,000 entries that are not 0; all names differ; each
-- row is within its limits
pub record IsTableau (t : Tableau) : Type 0 where
  pub few_columns : length t.columns ≤ most_columns
  pub few_rows : length t.rows ≤ most_rows
  pub few_entries : entry_count t ≤ most_entries
  pub names : AreNames (names_of t)
  pub each_row : All (IsRowWithinLimits (length t.columns)) t.rows
