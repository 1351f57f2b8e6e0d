-- The rows of a system as lists (own).
use Rattle.std.specs.Prelude.{ℕ, ℤ, ◌≡◌, List, length, map}
use Rattle.std.specs.List.{range_with_len}
use Rattle.gj_limit_proof.specs.LimitRowsKept.{unit_at}
use Rattle.gj_limit_system.specs.LimitRows.{row_value}
use Rattle.gj_limit_system.specs.Unknowns.{ColumnData, columns_for, limits_from}
use Rattle.gj_limit_system.specs.declared.limit_row.LimitRow.{LimitRow}
use Rattle.gj_shape.specs.FunctionData.{FunctionData}
use Rattle.gj_shape.specs.SlopeRows.{component_in}

-- how many columns the rows of the system have
abbrev pub columns_in : ColumnData → ℕ
columns_in s = columns_for (length s.component) s.count

-- the row of the system with this name: at each column what it says is 0 if that one is 1 and all
-- others are 0
abbrev pub row_in : ColumnData → LimitRow → List ℤ
row_in s name =
    map (λ c. row_value s.place
    (limits_from (length s.component) (component_in s.component) (unit_at c)) name)
    (range_with_len 0 (columns_in s))

-- the system is one for the order and the place of the function
pub record IsSystemOf (f : FunctionData) (s : ColumnData) : Type 0 where
  pub order : length s.component ≡ f.order
  pub place : s.place ≡ f.place
