-- The row that the code makes (own).
use Rattle.std.specs.Prelude.{Bool, List, ◌++◌}
use Rattle.gj_frac.specs.declared.Frac.{Frac}
use Rattle.gj_problem.specs.declared.problem.Problem.{Problem}
use Rattle.gj_problem.specs.declared.row.MadeRow.{MadeRow}
use Rattle.gj_problem.specs.declared.row.MadeRow.TheVariants.{Row, Free}
use Rattle.gj_problem.specs.Aggregates.{IsRow, IsFirstFree}

-- it is the row of the multipliers, or its first free column
abbrev pub IsMadeRow : Problem → List Frac → List Bool → MadeRow → Type 0
IsMadeRow p multipliers at_upper (Row row) =
    IsRow p multipliers at_upper (row.slacks.items ++ row.bounds.items) row.right
IsMadeRow p multipliers at_upper (Free j) = IsFirstFree p multipliers at_upper j
