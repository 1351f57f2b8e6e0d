-- A problem with its rule as it is printed: in one order, each number in its one spelling (own).
use Rattle.std.specs.Prelude.{ℕ, ◌≡◌, ◌+◌, ◌*◌, ◌<◌, ◌≤◌, Option, Some, None, IfSome, codes}
use Rattle.std.specs.Prelude.{List, [], ◌∷◌, ◌++◌, All, flat_map, length, map}
use Rattle.gj_lex.specs.Name.{IsName}
use Rattle.gj_shape.specs.FunctionData.{IsWithinBounds}
use Rattle.gj_function_lines.specs.FunctionLines.{line}
use Rattle.gj_function_text.specs.FunctionText.{IsCanonicalText}
use Rattle.gj_problem.specs.declared.problem.Entry.{Entry}
use Rattle.gj_problem.specs.declared.problem.Problem.{Problem}
use Rattle.gj_proof.specs.declared.cut.CutRule.{CutRule}
use Rattle.gj_proof.specs.declared.cut.CutRule.TheVariants.{Gmic, Table}
use Rattle.gj_problem_text.specs.CutText.{AreNames, name_at}
use Rattle.gj_problem_text.specs.PrintedProblem.{problem_told, printed}
use Rattle.gj_problem_text.specs.ProblemLines.{ProblemLine, upper, sum, grid, round, IsGrid}
use Rattle.gj_problem_text.specs.Tasks.{most_columns, most_constraints, most_entries, most_steps, steps_of_sum}
use Rattle.gj_problem_text.specs.declared.input.SafeInput.{SafeInput}
use Rattle.gj_problem_text.specs.declared.task.Request.{Request}
use Rattle.gj_problem_text.specs.declared.task.Request.TheVariants.{Upper, Sum}
use Rattle.gj_problem_text.specs.declared.task.Task.{Task}

-- what the line of the grid tells, if there is one
abbrev pub grid_told : Option ℕ → List ProblemLine
grid_told None = []
grid_told (Some n) = grid n ∷ []

-- what that of the grid of the data tells
abbrev pub round_told : Option ℕ → List ProblemLine
round_told None = []
round_told (Some n) = round n ∷ []

-- what the line of a request tells; the names are those of the columns
abbrev pub request_told : List (List ℕ) → Request → ProblemLine
request_told names (Upper j) = upper (name_at names j)
request_told names (Sum multipliers) = sum multipliers

-- the problem, the grids and the requests, in their order
abbrev pub task_told : List (List ℕ) → Task → List ProblemLine
task_told constraint_names s =
    problem_told s.names constraint_names s.problem ++ round_told s.round ++ grid_told s.grid
    ++ map (request_told s.names) s.requests

-- the entries of all constraints
abbrev pub all_entries : Problem → List Entry
all_entries p = flat_map (λ c. c.entries) p.constraints

-- the request turns one of n columns, or has a multiplier for each of m constraints
abbrev pub IsRequestOf : ℕ → ℕ → Request → Type 0
IsRequestOf n m (Upper j) = j < n
IsRequestOf n m (Sum multipliers) = length multipliers ≡ m

-- how many of the requests are sums
abbrev pub sums_in : List Request → ℕ
sums_in [] = 0
sums_in (Upper j ∷ requests) = sums_in requests
sums_in (Sum multipliers ∷ requests) = sums_in requests + 1

-- the task has names for its columns, all different, and these are names for its constraints; it is
-- within the limits, and speaks of its own columns alone
pub record IsPrintable (constraint_names : List (List ℕ)) (s : Task) : Type 0 where
  pub column_names : AreNames s.names
  pub columns : length s.names ≡ length s.problem.columns
  pub columns_few : length s.names ≤ most_columns
  pub are_names : All IsName constraint_names
  pub constraints : length constraint_names ≡ length s.problem.constraints
  pub constraints_few : length constraint_names ≤ most_constraints
  pub known : All (λ e. e.column < length s.names) (all_entries s.problem)
  pub entries : s.entries ≡ length (all_entries s.problem)
  pub entries_few : s.entries ≤ most_entries
  pub requests : All (IsRequestOf (length s.names) (length constraint_names)) s.requests
  pub sums : s.sums ≡ sums_in s.requests
  pub steps : s.sums * steps_of_sum s ≤ most_steps
  pub grid : IfSome s.grid IsGrid
  pub round : IfSome s.round IsGrid

-- the lines in front of a problem: its title and the line `rule gmic`; or the canonical text of a
-- function, and the title
abbrev pub HasFront : CutRule → List ℕ → Type 0
HasFront Gmic front = front ≡ line (codes "gj-problem 1") ++ line (codes "rule gmic")
HasFront (Table f) front =
    (text : List ℕ) × IsWithinBounds f × IsCanonicalText text f
    × (front ≡ text ++ line (codes "gj-problem 1"))

-- the text is the printed one of the problem with its rule
pub record IsPrintedInput (asked : SafeInput) (text : List ℕ) : Type 0 where
  pub constraint_names : List (List ℕ)
  pub printable : IsPrintable constraint_names asked.task
  pub front : List ℕ
  pub front_is : HasFront asked.rule front
  pub text_is : text
      ≡ front ++ printed (task_told constraint_names asked.task) ++ line (codes "end")
