-- Entries of rows, one after another (own).
use Rattle.std.specs.Prelude.{ℕ, ℤ, pos, ◌≡◌, ◌≢◌, ◌+◌, ◌<◌, List, length, get_or}
use Rattle.gj_sparse_elim.specs.declared.entry.Entry.{Entry}
use Rattle.gj_limit_system.specs.Places.{no_entry}

-- the first entry stands at the column
abbrev pub StartsAt : List Entry → ℕ → Type 0
StartsAt row column = (0 < length row) × ((get_or row 0 no_entry).column ≡ column)

-- what the entry at the index has at the column, if it stands there, and the index behind it; else
-- 0 and the index
pub record IsReached (row : List Entry) (index column : ℕ) (factor : ℤ) (behind : ℕ) : Type 0 where
  pub here : index < length row → (get_or row index no_entry).column ≡ column →
      (factor ≡ (get_or row index no_entry).factor) × (behind ≡ index + 1)
  pub other : (index < length row → (get_or row index no_entry).column ≢ column) →
      (factor ≡ pos 0) × (behind ≡ index)
