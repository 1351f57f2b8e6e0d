-- How `Basis` keeps rows: the log beside the entries.
use Rattle.std.specs.Prelude.{ℕ, ℤ, List, [], ◌∷◌, Option, None, Some}
use Rattle.gj_shape.specs.Elimination.{KeptRow, Solution}
use Rattle.gj_elim.specs.declared.log.LogRow.{LogRow}
use Rattle.gj_elim.specs.declared.log.Inserted.{Inserted}
use Rattle.gj_elim.specs.declared.log.Inserted.TheVariants.{Pivot, Nothing}

-- the kept rows with these lines of the log and these entries
abbrev pub kept_rows : List LogRow → List (List ℤ) → List KeptRow
kept_rows (l ∷ log) (row ∷ rows) =
    record { number = l.number; reduce = l.reduce; pivot = l.pivot; entries = row }
    ∷ kept_rows log rows
kept_rows log rows = []

-- the line of the log for a kept row
abbrev pub log_row : KeptRow → LogRow
log_row k = record { number = k.number; reduce = k.reduce; pivot = k.pivot }

-- the answer if a row is kept with this pivot and these entries, or nothing is left of it
abbrev pub answer_of : Option (ℕ × List ℤ) → Inserted
answer_of None = Nothing
answer_of (Some row) = Pivot row.0

-- the marked numbers of a solution
abbrev pub marked_in : Option Solution → List ℤ
marked_in None = []
marked_in (Some s) = s.marked
