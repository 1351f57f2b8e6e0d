-- Rows of the system that are inserted, and those that are still to come (own).
use Rattle.std.specs.Prelude.{ℕ, ℤ, ◌≡◌, ◌↔◌, ◌-◌, ◌<◌, List, ◌++◌, length, map, flat_map, get_or}
use Rattle.std.specs.List.{range_with_len}
use Rattle.gj_limit_proof.specs.LimitRowsKept.{named_row}
use Rattle.gj_limit_system.specs.LimitRows.{limit_rows, tight_rows}
use Rattle.gj_limit_system.specs.declared.limit_row.LimitRow.{LimitRow}
use Rattle.gj_limit_system.specs.declared.limit_row.LimitRow.TheVariants.{F}
use Rattle.gj_shape.specs.Elimination.{KeptRow, elimination_from, Passes}
use Rattle.gj_shape.specs.FunctionData.{FunctionData}
use Rattle.gj_shape.specs.SlopeRows.{component_in}
use Rattle.gj_limit_extreme.specs.Decision.{limit_elimination}
use Rattle.gj_limit_extreme.specs.declared.inserted_rows.Rows.{Rows}

-- the names of the rows of the vertices (c, d) with c from a on, and d from c on
abbrev pub tight_rows_from : FunctionData → ℕ → List LimitRow
tight_rows_from f a = flat_map (tight_rows f) (range_with_len a (f.order - a))

-- the name of the row that is kept
abbrev pub name_of : FunctionData → KeptRow → LimitRow
name_of f k = get_or (limit_rows f) k.number F

-- the rows of these names
abbrev pub rows_named : FunctionData → List ℕ → ℕ → List LimitRow → List (List ℤ)
rows_named f component n names = map (named_row f (component_in component) n) names

-- these names follow the first so many
abbrev pub AreNextNames : FunctionData → ℕ → List LimitRow → Type 0
AreNextNames f number rest = (before : List LimitRow) × (limit_rows f ≡ before ++ rest)
    × (length before ≡ number)

-- the rows have so many columns
pub record HaveColumns (n : ℕ) (rows : Rows) : Type 0 where
  pub columns : rows.columns ≡ n
  pub basis : rows.basis.columns ≡ n

-- the rows of these names are still to come: with them the basis ends as the elimination of all
-- rows does
pub record AreToCome (f : FunctionData) (component : List ℕ) (n : ℕ) (rows : Rows)
    (rest : List LimitRow) :
    Type 0 where
  pub columns : HaveColumns n rows
  pub kept : (limit_elimination f component n).kept
      ≡ (elimination_from n rows.basis.kept rows.basis.inserted
      (rows_named f component n rest)).kept
  pub marked : Passes (limit_elimination f component n).marked
      ↔ Passes (elimination_from n rows.basis.kept rows.basis.inserted
      (rows_named f component n rest)).marked
  pub names : rows.names.items ≡ map (name_of f) rows.basis.kept
  pub next : length rows.basis.kept < n → AreNextNames f rows.basis.inserted rest

-- all rows are inserted, or as many are kept as there are columns
pub record AreInserted (f : FunctionData) (component : List ℕ) (n : ℕ) (rows : Rows) : Type 0 where
  pub columns : HaveColumns n rows
  pub kept : (limit_elimination f component n).kept ≡ rows.basis.kept
  pub fits : Passes (limit_elimination f component n).marked → ⊥
  pub names : rows.names.items ≡ map (name_of f) rows.basis.kept
