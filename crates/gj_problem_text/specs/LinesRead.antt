-- What the readers of lines find (own).
use Rattle.gj_problem_text.specs.ProblemLines.{ProblemLine, column, constraint, entry, upper, sum, grid, round}
use Rattle.gj_problem_text.specs.declared.lines.Line.{Line}
use Rattle.gj_problem_text.specs.declared.lines.Line.TheVariants.{Column, Constraint, Entry, Upper, Sum, Grid, Round}

-- what the line tells
abbrev pub line_told : Line → ProblemLine
line_told (Column name is_whole low high) = column name.now is_whole low.now high.now
line_told (Constraint name sense right) = constraint name.now sense right
line_told (Entry name value) = entry name.now value
line_told (Upper name) = upper name.now
line_told (Sum multipliers) = sum multipliers
line_told (Grid n) = grid n
line_told (Round n) = round n
