-- Rows of numbers and the table of kept rows, by their entries (own).
use Rattle.std.specs.Prelude.{ℕ, ℤ, ◌≡◌, ◌<◌, ◌^◌, List, IfSome, get_or, map}
use Rattle.std.specs.declared.option.Option.{Option}
use Rattle.std.specs.declared.option.Option.TheVariants.{None}
use Rattle.std.specs.Option.{option_map}
use Rattle.gj_sparse_elim.specs.declared.entry.Entry.{Entry}
use Rattle.gj_sparse_elim.specs.Sparse.{AreSparse, dense}
use Rattle.gj_proof.specs.declared.numbers.Numbers.{Numbers}
use Rattle.gj_proof.specs.PresentRows.{arithmetic_of}
use Rattle.gj_check_groups.specs.KeptTable.{IsTable}
use Rattle.gj_check_groups.specs.RowNumbers.{AreRowNumbers}

-- the entries of a row of n columns of these numbers
pub record IsSparseRow (numbers : Numbers) (n : ℕ) (row : List Entry) : Type 0 where
  pub sparse : AreSparse n row
  pub fits : AreRowNumbers numbers (dense n row)

-- a row of these numbers is left of a row by the step of a kept row at the column c
pub record IsReduced (numbers : Numbers) (n : ℕ) (kept row : List Entry) (c : ℕ)
    (after : List Entry) : Type 0 where
  pub row_is : IsSparseRow numbers n after
  pub value : dense n after ≡ (arithmetic_of numbers).step (dense n kept) (dense n row) c

-- a table as that of whole rows of n columns
abbrev pub dense_rows : ℕ → List (Option (List Entry)) → List (Option (List ℤ))
dense_rows n table = map (option_map (dense n)) table

-- a table of rows of n columns of these numbers
pub record IsSparseTable (numbers : Numbers) (n : ℕ) (table : List (Option (List Entry))) : Type
    0 where
  pub few : n < 2 ^ 32
  pub sparse : (c : ℕ) → IfSome (get_or table c None) (AreSparse n)
  pub whole : IsTable numbers n (dense_rows n table)
