-- A problem as it is printed, line by line, each number in its one spelling (own).
use Rattle.std.specs.Prelude.{ℕ, Option, Some, None, List, [], ◌∷◌, ◌++◌, codes, flat_map, map}
use Rattle.gj_frac.specs.declared.Frac.{Frac}
use Rattle.gj_lex.specs.NumberText.{fraction_text}
use Rattle.gj_forms.specs.LineForms.{line_of}
use Rattle.gj_problem.specs.declared.problem.Column.{Column}
use Rattle.gj_problem.specs.declared.problem.Constraint.{Constraint}
use Rattle.gj_problem.specs.declared.problem.Entry.{Entry}
use Rattle.gj_problem.specs.declared.problem.Problem.{Problem}
use Rattle.gj_problem_text.specs.CutText.{name_at}
use Rattle.gj_problem_text.specs.ProblemLines.{ProblemLine, column, constraint, entry, problem_form}

-- the word of a bound: `-` is none
abbrev pub bound_word : Option Frac → List ℕ
bound_word None = codes "-"
bound_word (Some x) = fraction_text x

-- what the line of a column tells
abbrev pub column_told : List ℕ → Column → ProblemLine
column_told name c = column name c.is_whole (bound_word c.lower) (bound_word c.upper)

-- that of an entry; the names are those of the columns
abbrev pub entry_told : List (List ℕ) → Entry → ProblemLine
entry_told names e = entry (name_at names e.column) e.value

-- that of a constraint, and those of its entries behind it
abbrev pub constraint_told : List (List ℕ) → List ℕ → Constraint → List ProblemLine
constraint_told names name c = constraint name c.sense c.right ∷ map (entry_told names) c.entries

-- what is told of each thing with its name, one behind another
abbrev pub each_told : {A : Type 0} → (List ℕ → A → List ProblemLine) → List (List ℕ) → List A →
    List ProblemLine
each_told told (name ∷ names) (thing ∷ things) = told name thing ++ each_told told names things
each_told told names things = []

-- all columns, and then all constraints, with these names
abbrev pub problem_told : List (List ℕ) → List (List ℕ) → Problem → List ProblemLine
problem_told names constraint_names p =
    each_told (λ name c. column_told name c ∷ []) names p.columns
    ++ each_told (constraint_told names) constraint_names p.constraints

-- the lines that tell so
abbrev pub printed : List ProblemLine → List ℕ
printed told = flat_map (line_of problem_form) told

abbrev pub problem_lines : List (List ℕ) → List (List ℕ) → Problem → List ℕ
problem_lines names constraint_names p = printed (problem_told names constraint_names p)
