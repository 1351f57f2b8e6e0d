use Rattle.std.proofs.Common.{take}
use Rattle.std.specs.List.{AllZip}
use Rattle.gj_relaxed.specs.RelaxedProblems.{IsRelaxedColumn, AreWideColumns}
use Rattle.gj_relaxed.proofs.columns.relaxed_columns.Given as goal

abbrev pub invariant-loop-column : goal.invariant-loop-column
invariant-loop-column l = record {
  made : AllZip (IsRelaxedColumn l.grid) (take l.column-index l.columns) l.made.items;
  narrow : AreWideColumns l.grid (take l.column-index l.columns) → ⊥;
}
