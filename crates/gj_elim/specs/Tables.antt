-- What is known of the kept rows: the place of the row with each pivot, and how far each row goes.
use Rattle.std.specs.Prelude.{ℕ, ℤ, ◌≡◌, ◌<◌, ◌^◌, ◌==◌, Option, None, List, [], length, get_or, All}
use Rattle.std.specs.List.{position}
use Rattle.gj_shape.specs.Elimination.{KeptRow}
use Rattle.gj_theory.specs.TriangularRows.{AreTriangular}
use Rattle.gj_frac.specs.Fraction.{Fits}
use Rattle.gj_elim.specs.KeptRows.{kept_rows}
use Rattle.gj_elim.specs.declared.kept.KeptRows.{KeptRows}
use Rattle.gj_elim.specs.declared.log.LogRow.{LogRow}
use Rattle.gj_elim.specs.declared.extent.Extent.{Extent}
use Rattle.gj_elim.specs.Lazy.{IsExtent}

-- for each of the columns the place of the line with its pivot
pub record ArePlaces (columns : ℕ) (log : List LogRow) (places : List (Option ℕ)) : Type 0 where
  pub columns_are : length places ≡ columns
  pub place : (c : ℕ) → c < columns → get_or places c None ≡ position (λ line. line.pivot == c) log

abbrev pub no_extent : Extent
no_extent = record { bound = 0; end = 0 }

-- for each of the rows its extent
pub record AreExtents (rows : List (List ℤ)) (extents : List Extent) : Type 0 where
  pub rows_are : length extents ≡ length rows
  pub extent : (i : ℕ) → i < length rows →
      IsExtent (get_or extents i no_extent).bound (get_or extents i no_extent).end
      (get_or rows i [])

-- the kept rows as the definitions have them
abbrev pub rows_of : KeptRows → List KeptRow
rows_of k = kept_rows k.log.items k.rows.items

-- the log has a line for each row, the rows are triangular with so many columns and entries of at
-- most 2^127 - 1 in absolute value, and the tables tell of them
pub record AreKept (columns : ℕ) (k : KeptRows) : Type 0 where
  pub lines : length k.log.items ≡ length k.rows.items
  pub triangular : AreTriangular columns (rows_of k)
  pub fits : All (All Fits) k.rows.items
  pub places : ArePlaces columns k.log.items k.places.items
  pub extents : AreExtents k.rows.items k.extents.items
  pub narrow : columns < 2 ^ 32
