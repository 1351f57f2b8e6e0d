-- The kept rows as a table over the columns (own).
use Rattle.std.specs.Prelude.{ℕ, ℤ, ◌≡◌, List, IfSome, get_or, length}
use Rattle.std.specs.declared.option.Option.{Option}
use Rattle.std.specs.declared.option.Option.TheVariants.{Some, None}
use Rattle.gj_shape.specs.Elimination.{KeptRow, at_column, row_with_pivot}
use Rattle.gj_proof.specs.declared.numbers.Numbers.{Numbers}
use Rattle.gj_check_groups.specs.RowNumbers.{AreRowNumbers, IsPivotEntry}

-- the entries of a kept row, if there is one
abbrev pub entries_kept : Option KeptRow → Option (List ℤ)
entries_kept None = None
entries_kept (Some k) = Some k.entries

-- the table has at each column the entries of the row with its pivot there
abbrev pub AreRowsAt : List KeptRow → List (Option (List ℤ)) → Type 0
AreRowsAt kept table = (c : ℕ) → get_or table c None ≡ entries_kept (row_with_pivot kept c)

-- the entries of a row of n columns of these numbers, with its pivot at the column c
pub record IsKeptAt (numbers : Numbers) (n c : ℕ) (entries : List ℤ) : Type 0 where
  pub columns : length entries ≡ n
  pub pivot : IsPivotEntry numbers (at_column entries c)
  pub fits : AreRowNumbers numbers entries

-- a table of rows of n columns of these numbers
pub record IsTable (numbers : Numbers) (n : ℕ) (table : List (Option (List ℤ))) : Type 0 where
  pub columns : length table ≡ n
  pub rows : (c : ℕ) → IfSome (get_or table c None) (IsKeptAt numbers n c)
