-- What always holds of the fields of a basis.
use Rattle.std.specs.Prelude.{◌≡◌, length}
use Rattle.gj_elim.specs.Data.{BasisData}
use Rattle.gj_elim.specs.Tables.{rows_of, AreKept}
use Rattle.gj_elim.specs.declared.basis.Basis.TheInside.{Inside}

-- the basis with these fields
abbrev pub data_of : Inside → BasisData
data_of b = record {
  columns = b.columns;
  inserted = b.inserted;
  kept = rows_of b.kept;
}

-- the kept rows have the columns of the basis, and so has the row that is reduced, once with 128
-- bits a number and once with 64
pub record IsBasis (b : Inside) : Type 0 where
  pub kept : AreKept b.columns b.kept
  pub columns : length b.row.items ≡ b.columns
  pub small_columns : length b.small.items ≡ b.columns
