-- What always holds of the fields of a basis.
use Rattle.std.specs.Prelude.{◌≡◌, ◌<◌, length, All}
use Rattle.gj_elim.specs.Data.{BasisData}
use Rattle.gj_sparse_elim.specs.Columns.{IsSupport}
use Rattle.gj_sparse_elim.specs.Rows.{sparse_rows, AreKeptSparse}
use Rattle.gj_sparse_elim.specs.Seen.{IsSeen}
use Rattle.gj_sparse_elim.specs.declared.basis.SparseBasis.TheInside.{Inside}

-- the basis with these fields
abbrev pub data_of : Inside → BasisData
data_of b = record {
  columns = b.columns;
  inserted = b.inserted;
  kept = sparse_rows b.columns b.kept;
}

-- the kept rows and the rows for work have the columns of the basis, and the row of 64 bits is 0
-- but at the columns of its set; of the seen rows nothing is left
pub record IsSparseBasis (b : Inside) : Type 0 where
  pub kept : AreKeptSparse b.columns b.kept
  pub columns : length b.row.items ≡ b.columns
  pub kept_columns : length b.kept_row.items ≡ b.columns
  pub small_columns : length b.small.items ≡ b.columns
  pub support : IsSupport b.touched.items b.small.items
  pub seen : All (IsSeen b.columns (sparse_rows b.columns b.kept)) b.seen.items
  pub some : 0 < length b.seen.items
