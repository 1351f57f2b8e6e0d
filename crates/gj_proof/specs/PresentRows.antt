-- The rows of a proof that a function is extreme: how they begin, and what each group keeps (own).
use Rattle.std.specs.Prelude.{ℕ, ℤ, ◌<◌, Option, None, Some, List, [], ◌∷◌, ◌++◌, length}
use Rattle.gj_shape.specs.Cover.{HasComponent}
use Rattle.gj_shape.specs.Elimination.{KeptRow, Arithmetic, whole_numbers}
use Rattle.gj_shape.specs.FunctionData.{FunctionData}
use Rattle.gj_shape.specs.Residues.{modulo}
use Rattle.gj_shape.specs.SlopeRows.{row_of}
use Rattle.gj_shape.specs.declared.extremality.CoverLine.{CoverLine}
use Rattle.gj_shape.specs.declared.extremality.RowName.{RowName}
use Rattle.gj_theory.specs.Modulus.{modulus}
use Rattle.gj_theory.specs.TriangularRows.{present_row_by}
use Rattle.gj_proof.specs.declared.numbers.Numbers.{Numbers}
use Rattle.gj_proof.specs.declared.numbers.Numbers.TheVariants.{Whole, Residues}
use Rattle.gj_proof.specs.declared.pivot.PivotRow.{PivotRow}

-- the arithmetic of these numbers
abbrev pub arithmetic_of : Numbers → Arithmetic
arithmetic_of Whole = whole_numbers
arithmetic_of Residues = modulo modulus

-- the numbers are those of the components of all intervals, by the lines
abbrev pub AreNumbersOf : FunctionData → List CoverLine → (ℕ → ℕ) → Type 0
AreNumbersOf f lines component = (i : ℕ) → i < f.order → HasComponent lines (component i) i

-- the row of this name of the linear system for the slopes of n components
abbrev pub named_row : FunctionData → (ℕ → ℕ) → ℕ → RowName → List ℤ
named_row f component n name = row_of component n f.order f.place name

-- the same, read
abbrev pub begun_row : Arithmetic → FunctionData → (ℕ → ℕ) → ℕ → RowName → List ℤ
begun_row by f component n name = by.read (named_row f component n name)

-- the entries with which a row is kept; of one that cannot be kept, none
abbrev pub entries_or_none : Option (List ℤ) → List ℤ
entries_or_none None = []
entries_or_none (Some entries) = entries

-- the row that a group keeps behind these: its row after its steps, as the arithmetic keeps it at
-- the pivot
abbrev pub row_kept_by : Arithmetic → FunctionData → (ℕ → ℕ) → ℕ → List KeptRow → PivotRow → KeptRow
row_kept_by by f component n kept group = record {
  number = length kept;
  reduce = group.reduce;
  pivot = group.pivot;
  entries = entries_or_none
      (by.keep (present_row_by by kept (begun_row by f component n group.name) group.reduce)
      group.pivot);
}

abbrev pub row_kept : FunctionData → (ℕ → ℕ) → ℕ → List KeptRow → PivotRow → KeptRow
row_kept f component n kept group = row_kept_by whole_numbers f component n kept group

-- the rows that these groups keep, behind others
abbrev pub rows_behind_by : Arithmetic → FunctionData → (ℕ → ℕ) → ℕ → List KeptRow → List PivotRow →
    List KeptRow
rows_behind_by by f component n kept [] = kept
rows_behind_by by f component n kept (group ∷ more) =
    rows_behind_by by f component n (kept ++ row_kept_by by f component n kept group ∷ []) more

abbrev pub rows_behind : FunctionData → (ℕ → ℕ) → ℕ → List KeptRow → List PivotRow → List KeptRow
rows_behind f component n kept groups = rows_behind_by whole_numbers f component n kept groups

-- the rows that these groups keep
abbrev pub rows_before_by : Arithmetic → FunctionData → (ℕ → ℕ) → ℕ → List PivotRow → List KeptRow
rows_before_by by f component n groups = rows_behind_by by f component n [] groups

abbrev pub rows_before : FunctionData → (ℕ → ℕ) → ℕ → List PivotRow → List KeptRow
rows_before f component n groups = rows_before_by whole_numbers f component n groups
