-- Where a column stands in a sparse row (own).
use Rattle.std.specs.Prelude.{ℕ, pos, ◌<◌, ◌≤◌, List, length, get_or}
use Rattle.gj_sparse_elim.specs.declared.entry.Entry.{Entry}

-- an entry, if none is meant
abbrev pub no_entry : Entry
no_entry = record { column = 0; factor = pos 0 }

-- the entries before this index have columns below this one, and the next one has not
pub record IsPlaceOf (row : List Entry) (column place : ℕ) : Type 0 where
  pub within : place ≤ length row
  pub before : (i : ℕ) → i < place → (get_or row i no_entry).column < column
  pub next : place < length row → column ≤ (get_or row place no_entry).column
