-- What always holds of the fields of a basis of residues.
use Rattle.std.specs.Prelude.{◌≡◌, length}
use Rattle.gj_elim.specs.Data.{BasisData}
use Rattle.gj_residue.specs.Rows.{kept_residues, AreKeptResidues}
use Rattle.gj_residue.specs.declared.basis.ResidueBasis.TheInside.{Inside}

-- the basis with these fields
abbrev pub data_of : Inside → BasisData
data_of b = record {
  columns = b.columns;
  inserted = b.inserted;
  kept = kept_residues b.kept;
}

-- the kept rows have the columns of the basis, and so has the row that is reduced
pub record IsResidueBasis (b : Inside) : Type 0 where
  pub kept : AreKeptResidues b.columns b.kept
  pub columns : length b.row.items ≡ b.columns
