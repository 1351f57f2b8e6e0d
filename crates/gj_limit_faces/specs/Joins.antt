-- The joins of all rows (own).
use Rattle.std.specs.Prelude.{ℕ, ◌≡◌, ◌<◌, List, length, get_or}
use Rattle.gj_shape.specs.FunctionData.{FunctionData}
use Rattle.gj_limit_faces.specs.RowJoins.{AreRowJoins, no_row}
use Rattle.gj_limit_faces.specs.declared.joins.Joins.{Joins}
use Rattle.gj_limit_faces.specs.declared.row_joins.RowJoins.{RowJoins}

-- there are n rows, those of the indices below n
pub record AreJoinRows (f : FunctionData) (n : ℕ) (rows : List RowJoins) : Type 0 where
  pub count : length rows ≡ n
  pub each : (a : ℕ) → a < n → AreRowJoins f a (get_or rows a no_row)

-- they are the joins of the function
pub record AreJoinsOf (f : FunctionData) (joins : Joins) : Type 0 where
  pub order : joins.order ≡ f.order
  pub rows : AreJoinRows f f.order joins.rows.items
