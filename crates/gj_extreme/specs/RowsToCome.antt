-- Rows of the system that are inserted, and those that are still to come (own).
use Rattle.std.specs.Prelude.{ℕ, ℤ, ◌≡◌, ◌⊎◌, ◌↔◌, ◌-◌, ◌<◌, ◌≤◌, ◌^◌, List, [], ◌++◌, Contains, All, length, map, filter, flat_map, get_or}
use Rattle.std.specs.List.{range_with_len}
use Rattle.gj_shape.specs.Elimination.{KeptRow, elimination, elimination_from, Passes}
use Rattle.gj_shape.specs.FunctionData.{FunctionData}
use Rattle.gj_shape.specs.SlopeRows.{is_tight, row_names}
use Rattle.gj_shape.specs.declared.extremality.RowName.{RowName}
use Rattle.gj_shape.specs.declared.extremality.RowName.TheVariants.{Period, Pair}
use Rattle.gj_theory.specs.HandedOver.{IsHandedOver, handed_numbers, handed_rows, renumbered}
use Rattle.gj_elim.specs.declared.log.LogRow.{LogRow}
use Rattle.gj_proof.specs.PresentRows.{named_row}
use Rattle.gj_extreme.specs.Decision.{slope_elimination}
use Rattle.gj_extreme.specs.SeenPairs.{IsSeenName, IsSeenRow}
use Rattle.gj_extreme.specs.declared.inserted_rows.Rows.{Rows}

-- ---- the order of rows

-- the names of the tight pairs (a, c) with c from b on
abbrev pub pairs_from : FunctionData → ℕ → ℕ → List RowName
pairs_from f a b = map (Pair a) (filter (is_tight f a) (range_with_len b (f.order - b)))

-- the names of the tight pairs (c, d) with c from a on, and d from c on
abbrev pub row_names_from : FunctionData → ℕ → List RowName
row_names_from f a = flat_map (λ c. pairs_from f c c) (range_with_len a (f.order - a))

-- the name of the row that is kept
abbrev pub name_of : FunctionData → KeptRow → RowName
name_of f k = get_or (row_names f) k.number Period

-- the rows of these names
abbrev pub rows_named : FunctionData → (ℕ → ℕ) → ℕ → List RowName → List (List ℤ)
rows_named f component n names = map (named_row f component n) names

-- these names follow the first so many
abbrev pub AreNextNames : FunctionData → ℕ → List RowName → Type 0
AreNextNames f number rest = (before : List RowName) × (row_names f ≡ before ++ rest)
    × (length before ≡ number)

-- the steps and the pivot of a line of a log, and of a kept row
abbrev pub line_parts : LogRow → List ℕ × ℕ
line_parts l = (l.reduce, l.pivot)

abbrev pub row_parts : KeptRow → List ℕ × ℕ
row_parts k = (k.reduce, k.pivot)

-- the lines of a log tell the steps and the pivots of the kept rows
abbrev pub AreLoggedRows : List KeptRow → List LogRow → Type 0
AreLoggedRows kept log = map line_parts log ≡ map row_parts kept

-- ---- the rows to come

-- rows are handed over, each with its number, and the basis has them; behind this number the rows
-- of these names are to come, and with each list of those that are handed over of them these are
-- handed over of all rows; each row was one before, has only zeros, or is to come
pub record AreHandedOver (f : FunctionData) (component : ℕ → ℕ) (n : ℕ) (rows : Rows)
    (rest : List RowName) : Type 0 where
  pub handed : List (ℕ × List ℤ)
  pub before : List (List ℤ)
  pub number : ℕ
  pub few : length handed ≤ number
  pub next : AreNextNames f number rest
  pub onward : (more : List (ℕ × List ℤ)) →
      IsHandedOver before number (rows_named f component n rest) more →
      IsHandedOver [] 0 (rows_named f component n (row_names f)) (handed ++ more)
  pub inserted : length rows.basis.kept < n → rows.basis.inserted ≡ length handed
  pub kept : (more : List (List ℤ)) →
      (elimination n (handed_rows handed ++ more)).kept
      ≡ (elimination_from n rows.basis.kept rows.basis.inserted more).kept
  pub marked : (more : List (List ℤ)) →
      Passes (elimination n (handed_rows handed ++ more)).marked
      ↔ Passes (elimination_from n rows.basis.kept rows.basis.inserted more).marked
  pub names : (more : List ℕ) →
      rows.names.items ≡ map (λ k. name_of f (renumbered (handed_numbers handed ++ more) k))
      rows.basis.kept
  pub seen : All (IsSeenRow f component n before) rows.seen.pairs.items
  pub known : (name : RowName) → Contains (row_names f) name → IsSeenName f component n before name
      ⊎ Contains rest name

-- the rows of these names are still to come
pub record AreToCome (f : FunctionData) (component : ℕ → ℕ) (n : ℕ) (rows : Rows)
    (rest : List RowName) : Type 0 where
  pub columns : rows.basis.columns ≡ n
  pub width : length rows.row.items ≡ n
  pub handed_over : AreHandedOver f component n rows rest

-- so they are, and the row of this name was one before
abbrev pub IsTaken : FunctionData → (ℕ → ℕ) → ℕ → RowName → Rows → List RowName → Type 0
IsTaken f component n name rows rest =
    (h : AreToCome f component n rows rest)
    × Contains h.handed_over.before (named_row f component n name)

-- all rows are inserted, or as many are kept as there are components; the basis numbers those that
-- were handed over
pub record AreInserted (f : FunctionData) (component : ℕ → ℕ) (n : ℕ) (rows : Rows) : Type 0 where
  pub columns : rows.basis.columns ≡ n
  pub width : length rows.row.items ≡ n
  pub numbers : List ℕ
  pub kept : (slope_elimination f component n).kept ≡ map (renumbered numbers) rows.basis.kept
  pub fits : Passes (slope_elimination f component n).marked → ⊥
  pub names : rows.names.items ≡ map (name_of f) (slope_elimination f component n).kept

-- if fewer rows are kept than there are components, fewer than 2^32 are inserted, so that one more
-- can be
pub record IsReady (rows : Rows) (n : ℕ) : Type 0 where
  pub columns : rows.basis.columns ≡ n
  pub width : length rows.row.items ≡ n
  pub count : length rows.basis.kept < n → rows.basis.inserted < 2 ^ 32
