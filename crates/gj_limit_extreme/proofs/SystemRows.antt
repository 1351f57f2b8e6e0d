-- The rows of a system, as they are written and as they are named.
use Rattle.std.proofs.Common.{◌≡◌, ℕ, ℤ, List, [], length, map, refl, ap₂, ◌∙◌}
use Rattle.std.specs.List.{range_with_len}
use Rattle.gj_shape.specs.FunctionData.{FunctionData, function_over}
use Rattle.gj_shape.specs.SlopeRows.{component_in}
use Rattle.gj_sparse_elim.specs.Sparse.{AreSparse, dense}
use Rattle.gj_sparse_elim.specs.declared.entry.Entry.{Entry}
use Rattle.gj_limit_system.specs.LimitRows.{row_value}
use Rattle.gj_limit_system.specs.SparseSums.{sparse_dot}
use Rattle.gj_limit_system.specs.Unknowns.{ColumnData, limits_from}
use Rattle.gj_limit_system.specs.declared.limit_row.LimitRow.{LimitRow}
use Rattle.gj_limit_proof.specs.LimitRowsKept.{unit_at, named_row}
use Rattle.gj_limit_proof.proofs.NamedEntries.{dense_named}
use Rattle.gj_limit_extreme.specs.SystemRows.{columns_in, row_in, IsSystemOf}

-- entries that have its sums are the row of a name
pub written_row : (s : ColumnData) (name : LimitRow) (entries : List Entry) →
    AreSparse (columns_in s) entries →
    ((x : ℕ → ℤ) → sparse_dot entries x
    ≡ row_value s.place (limits_from (length s.component) (component_in s.component) x) name) →
    dense (columns_in s) entries ≡ row_in s name
written_row s name entries sparse sums =
    dense_named (function_over (length s.component) s.place 0 [] [] []) (component_in s.component)
    (columns_in s) s.place
    (length s.component) name entries sparse refl refl sums

-- it is that of the system of the function
pub row_of_system : (f : FunctionData) (s : ColumnData) (name : LimitRow) → IsSystemOf f s →
    row_in s name ≡ named_row f (component_in s.component) (columns_in s) name
row_of_system f s name is =
    ap₂ (λ q k. map (λ c. row_value k (limits_from q (component_in s.component) (unit_at c)) name)
    (range_with_len 0 (columns_in s)))
    is.order is.place

pub written_for : (f : FunctionData) (s : ColumnData) (name : LimitRow) (n : ℕ)
    (row entries : List Entry) → IsSystemOf f s →
    AreSparse (columns_in s) entries →
    ((x : ℕ → ℤ) → sparse_dot entries x
    ≡ row_value s.place (limits_from (length s.component) (component_in s.component) x) name) →
    n ≡ columns_in s → row ≡ entries →
    dense n row ≡ named_row f (component_in s.component) (columns_in s) name
written_for f s name n row entries is sparse sums columns same =
    ap₂ dense columns same ∙ written_row s name entries sparse sums ∙ row_of_system f s name is
