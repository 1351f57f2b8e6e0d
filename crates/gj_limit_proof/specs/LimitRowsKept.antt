-- The rows of a proof that a function that jumps is extreme: how they begin, and what each group
-- keeps (own).
use Rattle.std.specs.Prelude.{ℕ, ℤ, pos, ◌==◌, if◌then◌else◌, List, [], ◌∷◌, ◌++◌, length, map}
use Rattle.std.specs.List.{range_with_len}
use Rattle.gj_shape.specs.Elimination.{KeptRow, Arithmetic}
use Rattle.gj_shape.specs.FunctionData.{FunctionData}
use Rattle.gj_theory.specs.TriangularRows.{present_row_by}
use Rattle.gj_limit_system.specs.LimitRows.{row_value}
use Rattle.gj_limit_system.specs.Unknowns.{limits_from}
use Rattle.gj_limit_system.specs.declared.limit_row.LimitRow.{LimitRow}
use Rattle.gj_proof.specs.PresentRows.{entries_or_none}
use Rattle.gj_limit_proof.specs.declared.claim.LimitPivotRow.{LimitPivotRow}

-- 1 at the column c, and 0 elsewhere
abbrev pub unit_at : ℕ → ℕ → ℤ
unit_at c j = if j == c then pos 1 else pos 0

-- the row of this name of the linear system for the limits and values of a perturbation, over n
-- columns: at each column what it is if that one is 1 and all others are 0
abbrev pub named_row : FunctionData → (ℕ → ℕ) → ℕ → LimitRow → List ℤ
named_row f component n name =
    map (λ c. row_value f.place (limits_from f.order component (unit_at c)) name)
    (range_with_len 0 n)

-- the same, read
abbrev pub begun_row : Arithmetic → FunctionData → (ℕ → ℕ) → ℕ → LimitRow → List ℤ
begun_row by f component n name = by.read (named_row f component n name)

-- the row that a group keeps behind these: its row after its steps, as the arithmetic keeps it at
-- the pivot
abbrev pub row_kept_by : Arithmetic → FunctionData → (ℕ → ℕ) → ℕ → List KeptRow → LimitPivotRow →
    KeptRow
row_kept_by by f component n kept group = record {
  number = length kept;
  reduce = group.reduce;
  pivot = group.pivot;
  entries = entries_or_none
      (by.keep (present_row_by by kept (begun_row by f component n group.name) group.reduce)
      group.pivot);
}

-- the rows that these groups keep, behind others
abbrev pub rows_behind_by : Arithmetic → FunctionData → (ℕ → ℕ) → ℕ → List KeptRow →
    List LimitPivotRow → List KeptRow
rows_behind_by by f component n kept [] = kept
rows_behind_by by f component n kept (group ∷ more) =
    rows_behind_by by f component n (kept ++ row_kept_by by f component n kept group ∷ []) more

-- the rows that these groups keep
abbrev pub rows_before_by : Arithmetic → FunctionData → (ℕ → ℕ) → ℕ → List LimitPivotRow →
    List KeptRow
rows_before_by by f component n groups = rows_behind_by by f component n [] groups
