-- Rows of residues as rows of whole numbers (own).
use Rattle.std.specs.Prelude.{ℕ, ℤ, pos, ◌≡◌, ◌<◌, ◌^◌, Option, None, Some, List, length, map, All}
use Rattle.gj_shape.specs.Elimination.{KeptRow}
use Rattle.gj_elim.specs.KeptRows.{kept_rows}
use Rattle.gj_theory.specs.Modulus.{modulus}
use Rattle.gj_theory.specs.TriangularResidues.{AreTriangularResidues}
use Rattle.gj_residue.specs.declared.kept.KeptResidues.{KeptResidues}
use Rattle.gj_residue.specs.declared.reduce.Left.{Left}

-- the residues as whole numbers
abbrev pub numbers_of : List ℕ → List ℤ
numbers_of row = map pos row

-- all are below the modulus
abbrev pub AreResidues : List ℕ → Type 0
AreResidues row = All (λ x. x < modulus) row

-- the kept rows as the definitions have them
abbrev pub kept_residues : KeptResidues → List KeptRow
kept_residues k = kept_rows k.log.items (map numbers_of k.rows.items)

-- the log has a line for each row, and the rows are triangular with so many columns
pub record AreKeptResidues (columns : ℕ) (k : KeptResidues) : Type 0 where
  pub lines : length k.log.items ≡ length k.rows.items
  pub triangular : AreTriangularResidues columns (kept_residues k)
  pub narrow : columns < 2 ^ 32

-- the column at which something is left of a row
abbrev pub column_of : Option Left → Option ℕ
column_of None = None
column_of (Some left) = Some left.column
