-- A basis as data, and what an insertion makes of it.
use Rattle.std.specs.Prelude.{ℕ, ℤ, ◌+◌, List}
use Rattle.gj_shape.specs.Elimination.{KeptRow, Arithmetic, whole_numbers, inserted_by, kept_behind}

-- how many columns the rows have, how many rows were inserted, and the rows that were kept
pub record BasisData : Type 0 where
  pub columns : ℕ
  pub inserted : ℕ
  pub kept : List KeptRow

-- the basis behind the insertion of a row
abbrev pub behind_by : Arithmetic → BasisData → List ℤ → BasisData
behind_by by b row = record {
  columns = b.columns;
  inserted = b.inserted + 1;
  kept = kept_behind b.kept b.inserted (inserted_by by b.columns b.kept row).reduce
      (inserted_by by b.columns b.kept row).kept;
}

abbrev pub behind : BasisData → List ℤ → BasisData
behind b row = behind_by whole_numbers b row
