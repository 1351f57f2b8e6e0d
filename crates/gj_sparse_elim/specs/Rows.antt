-- How `SparseBasis` keeps rows.
use Rattle.std.specs.Prelude.{ℕ, ◌≡◌, ◌<◌, ◌^◌, List, [], length, map, get_or, All}
use Rattle.gj_shape.specs.Elimination.{KeptRow}
use Rattle.gj_theory.specs.TriangularRows.{AreTriangular}
use Rattle.gj_elim.specs.KeptRows.{kept_rows}
use Rattle.gj_elim.specs.Lazy.{IsExtent}
use Rattle.gj_elim.specs.Tables.{ArePlaces}
use Rattle.gj_elim.specs.declared.log.LogRow.{LogRow}
use Rattle.gj_sparse_elim.specs.declared.entry.Entry.{Entry}
use Rattle.gj_sparse_elim.specs.declared.kept.KeptSparse.{KeptSparse}
use Rattle.gj_sparse_elim.specs.Sparse.{AreSparse, dense}

-- the kept rows of n columns with these lines of the log and these entries
abbrev pub kept_sparse : ℕ → List LogRow → List (List Entry) → List KeptRow
kept_sparse n log rows = kept_rows log (map (dense n) rows)

-- for each of the rows of n columns a bound of its absolute values, if it is below 2^63
pub record AreBounds (n : ℕ) (rows : List (List Entry)) (bounds : List ℕ) : Type 0 where
  pub rows_are : length bounds ≡ length rows
  pub bound : (i : ℕ) → i < length rows →
      IsExtent (get_or bounds i 0) n (dense n (get_or rows i []))

-- the kept rows of n columns as the definitions have them
abbrev pub sparse_rows : ℕ → KeptSparse → List KeptRow
sparse_rows n k = kept_sparse n k.log.items k.rows.items

-- the log has a line for each row, the rows are sparse and triangular with n columns, and the
-- tables tell of them
pub record AreKeptSparse (n : ℕ) (k : KeptSparse) : Type 0 where
  pub lines : length k.log.items ≡ length k.rows.items
  pub sparse : All (AreSparse n) k.rows.items
  pub triangular : AreTriangular n (sparse_rows n k)
  pub places : ArePlaces n k.log.items k.places.items
  pub bounds : AreBounds n k.rows.items k.bounds.items
  pub narrow : n < 2 ^ 32
