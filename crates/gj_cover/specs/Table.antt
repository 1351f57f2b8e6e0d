-- Tight pairs as sets of indices (own).
use Rattle.std.specs.Prelude.{ℕ, ◌≢◌, ◌↔◌, ◌%◌, ◌<◌, Bool, IsTrue}
use Rattle.gj_loops.specs.IndexSets.{has}
use Rattle.gj_loops.specs.declared.index_set.IndexSet.{IndexSet}
use Rattle.gj_shape.specs.Cover.{Joins, Covers, AreJoined}
use Rattle.gj_shape.specs.declared.faces.FaceKind.{FaceKind}
use Rattle.gj_cover.specs.SetRows.{in_row}
use Rattle.gj_cover.specs.declared.table.Table.{Table}

-- whether the pair is tight by the table, indices modulo the order
unfoldable pub is_tight_in : Table → ℕ → ℕ → Bool
is_tight_in t i j = in_row t.rows.items (i % t.order) (j % t.order)

-- the same as a fact
unfoldable pub IsTightInTable : Table → ℕ → ℕ → Type 0
IsTightInTable t i j = IsTrue (is_tight_in t i j)

-- the pairs of the relation are those that are tight by the table
abbrev pub TellsTight : Table → (ℕ → ℕ → Type 0) → Type 0
TellsTight t Tight = (i j : ℕ) → IsTightInTable t i j ↔ Tight i j

-- the face is additive by the table and joins the intervals i and j
abbrev pub JoinsBy : Table → ℕ → ℕ → FaceKind → ℕ → ℕ → Type 0
JoinsBy t i j kind a b = Joins t.order (IsTightInTable t) kind a b i j

-- some face is and does so
abbrev pub AreJoinedBy : Table → ℕ → ℕ → Type 0
AreJoinedBy t i j = AreJoined t.order (IsTightInTable t) i j

-- the face is an additive triangle by the table and projects on the interval i
abbrev pub CoversBy : Table → ℕ → FaceKind → ℕ → ℕ → Type 0
CoversBy t i kind a b = Covers t.order (IsTightInTable t) kind a b i

-- besides i itself the set has the intervals that are joined to i
abbrev pub IsJoinedSet : Table → ℕ → IndexSet → Type 0
IsJoinedSet t i set = (j : ℕ) → j < t.order → i ≢ j → IsTrue (has set j) ↔ AreJoinedBy t i j
