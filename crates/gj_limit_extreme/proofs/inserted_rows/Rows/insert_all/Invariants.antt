use Rattle.std.proofs.Common.{◌≡◌, ◌+◌, ◌≤◌, ◌++◌, List, length, drop}
use Rattle.gj_limit_system.specs.declared.limit_row.LimitRow.{LimitRow}
use Rattle.gj_shape.specs.FunctionData.{FunctionData}
use Rattle.gj_limit_extreme.specs.RowsToCome.{HaveColumns, AreToCome}
use Rattle.gj_limit_extreme.specs.SystemRows.{columns_in, IsSystemOf}
use Rattle.gj_limit_extreme.proofs.inserted_rows.Rows.insert_all.Given as goal

abbrev pub invariant-loop-name : goal.invariant-loop-name
invariant-loop-name l = record {
  columns : HaveColumns (columns_in l.system) l.self;
  count : l.self.basis.inserted ≤ l.fn.self.basis.inserted + l.name-index;
  to_come : (f : FunctionData) (rest : List LimitRow) → IsSystemOf f l.system →
      AreToCome f l.system.component (columns_in l.system) l.fn.self (l.names ++ rest) →
      AreToCome f l.system.component (columns_in l.system) l.self
      (drop l.name-index l.names ++ rest);
}
