-- A problem, and which rows of it give cuts, line by line (own).
use Rattle.std.specs.Prelude.{ℕ, ◌≡◌, ◌≢◌, ◌⊎◌, ◌+◌, ◌*◌, ◌<◌, ◌≤◌, Option, Some, None, Bool, List, [], ◌∷◌, ◌++◌, length, codes, nat_eq}
use Rattle.std.specs.Cmp.Lexicographic.{pointwise}
use Rattle.std.specs.List.{position}
use Rattle.gj_frac.specs.declared.Frac.{Frac}
use Rattle.gj_lex.specs.Name.{IsName}
use Rattle.gj_forms.specs.Parts.{LineRule}
use Rattle.gj_lex.specs.declared.reason.Reason.{Reason}
use Rattle.gj_lex.specs.declared.reason.Reason.TheVariants as reason
use Rattle.gj_forms.specs.SpelledForms.{made_rule}
use Rattle.gj_problem.specs.declared.problem.Constraint.{Constraint}
use Rattle.gj_problem.specs.declared.problem.Entry.{Entry}
use Rattle.gj_problem.specs.declared.problem.Sense.{Sense}
use Rattle.gj_problem_text.specs.NumberWords.{IsNumberWord}
use Rattle.gj_problem_text.specs.ProblemLines.{ProblemLine, column, constraint, entry, upper, sum, grid, round, told_rule}
use Rattle.gj_problem_text.specs.declared.task.Task.{Task}
use Rattle.gj_problem_text.specs.declared.task.Request.TheVariants.{Upper, Sum}

-- how many columns, constraints and entries there are at most
abbrev pub most_columns : ℕ
most_columns = 10000

abbrev pub most_constraints : ℕ
most_constraints = 10000

abbrev pub most_entries : ℕ
most_entries = 100000

-- and how many steps all sums take at most: 10^9
abbrev pub most_steps : ℕ
most_steps = 1000000000

-- a sum takes a step for each column, constraint and entry
abbrev pub steps_of_sum : Task → ℕ
steps_of_sum s = length s.names + length s.problem.constraints + s.entries

-- so many sums of so many steps are within the bound
abbrev pub AreWithinSteps : ℕ → ℕ → Type 0
AreWithinSteps sums steps = sums * steps ≤ most_steps

-- refused for this reason if it is not so, and else as the next ones say
abbrev pub Unless : Type 0 → Reason → (Reason → Type 0) → Reason → Type 0
Unless So because Next e = ((So → ⊥) × (e ≡ because)) ⊎ (So × Next e)

abbrev pub Never : Reason → Type 0
Never e = ⊥

-- the index of the first column with the name
abbrev pub index_of : Task → List ℕ → Option ℕ
index_of s name = position (pointwise nat_eq name) s.names

abbrev pub IsKnown : Task → List ℕ → Type 0
IsKnown s name = (j : ℕ) × (index_of s name ≡ Some j)

-- ---- columns

-- the word spells the bound: `-` is none
abbrev pub SpellsBound : List ℕ → Option Frac → Type 0
SpellsBound word None = word ≡ codes "-"
SpellsBound word (Some x) = (word ≢ codes "-") × IsNumberWord word x

abbrev pub IsBound : List ℕ → Type 0
IsBound word = (b : Option Frac) × SpellsBound word b

pub record AddsColumn (s : Task) (name : List ℕ) (is_whole : Bool) (low high : List ℕ) (t : Task) :
    Type 0 where
  pub is_name : IsName name
  pub lower : Option Frac
  pub lower_is : SpellsBound low lower
  pub upper : Option Frac
  pub upper_is : SpellsBound high upper
  pub few : length s.names < most_columns
  pub steps : AreWithinSteps s.sums (steps_of_sum s + 1)
  pub new : index_of s name ≡ None
  pub added : t ≡ record s {
    names = s.names ++ name ∷ [];
    problem = record (s.problem) {
      columns = s.problem.columns ++ record { is_whole = is_whole; lower = lower; upper = upper }
          ∷ [];
    };
  }

abbrev pub RefusesColumn : Task → List ℕ → List ℕ → List ℕ → Reason → Type 0
RefusesColumn s name low high =
    Unless (IsName name) reason.Form
    (Unless (IsBound low) reason.Number (Unless (IsBound high) reason.Number
    (Unless (length s.names < most_columns) reason.Large
    (Unless (AreWithinSteps s.sums (steps_of_sum s + 1)) reason.Large
    (Unless (index_of s name ≡ None) reason.Place Never)))))

-- ---- constraints and their entries: before the first row that is asked for

pub record AddsConstraint (s : Task) (name : List ℕ) (sense : Sense) (right : Frac) (t : Task) :
    Type 0 where
  pub before : s.requests ≡ []
  pub is_name : IsName name
  pub few : length s.problem.constraints < most_constraints
  pub added : t ≡ record s {
    problem = record (s.problem) {
      constraints = s.problem.constraints ++ record { entries = []; sense = sense; right = right }
          ∷ [];
    };
  }

abbrev pub RefusesConstraint : Task → List ℕ → Reason → Type 0
RefusesConstraint s name =
    Unless (s.requests ≡ []) reason.Form (Unless (IsName name) reason.Form
    (Unless (length s.problem.constraints < most_constraints) reason.Large Never))

-- there is a constraint, and no row is asked for
abbrev pub TakesEntries : Task → Type 0
TakesEntries s = (s.requests ≡ []) × (s.problem.constraints ≢ [])

-- the last constraint has one more entry
pub record AreLonger (old : List Constraint) (e : Entry) (new : List Constraint) : Type 0 where
  pub others : List Constraint
  pub last : Constraint
  pub old_is : old ≡ others ++ last ∷ []
  pub new_is : new ≡ others ++ record last { entries = last.entries ++ e ∷ [] } ∷ []

pub record AddsEntry (s : Task) (name : List ℕ) (value : Frac) (t : Task) : Type 0 where
  pub takes : TakesEntries s
  pub few : s.entries < most_entries
  pub index : ℕ
  pub index_is : index_of s name ≡ Some index
  pub constraints : List Constraint
  pub longer : AreLonger s.problem.constraints (record { column = index; value = value })
      constraints
  pub added : t ≡ record s {
    problem = record (s.problem) { constraints = constraints };
    entries = s.entries + 1;
  }

abbrev pub RefusesEntry : Task → List ℕ → Reason → Type 0
RefusesEntry s name =
    Unless (TakesEntries s) reason.Form
    (Unless (s.entries < most_entries) reason.Large
    (Unless (IsKnown s name) reason.Place Never))

-- ---- rows

pub record AddsUpper (s : Task) (name : List ℕ) (t : Task) : Type 0 where
  pub index : ℕ
  pub index_is : index_of s name ≡ Some index
  pub added : t ≡ record s { requests = s.requests ++ Upper index ∷ [] }

pub record AddsSum (s : Task) (multipliers : List Frac) (t : Task) : Type 0 where
  pub count : length multipliers ≡ length s.problem.constraints
  pub steps : AreWithinSteps (s.sums + 1) (steps_of_sum s)
  pub added : t ≡ record s {
    requests = s.requests ++ Sum multipliers ∷ [];
    sums = s.sums + 1;
  }

abbrev pub RefusesSum : Task → List Frac → Reason → Type 0
RefusesSum s multipliers =
    Unless (length multipliers ≡ length s.problem.constraints) reason.Form
    (Unless (AreWithinSteps (s.sums + 1) (steps_of_sum s)) reason.Large Never)

-- each once at most
pub record AddsGrid (s : Task) (n : ℕ) (t : Task) : Type 0 where
  pub none : s.grid ≡ None
  pub added : t ≡ record s { grid = Some n }

pub record AddsRound (s : Task) (n : ℕ) (t : Task) : Type 0 where
  pub none : s.round ≡ None
  pub added : t ≡ record s { round = Some n }

-- ---- all lines

-- the line makes of the task s the task t
abbrev pub Adds : Task → ProblemLine → Task → Type 0
Adds s (column name is_whole low high) t = AddsColumn s name is_whole low high t
Adds s (constraint name sense right) t = AddsConstraint s name sense right t
Adds s (entry name value) t = AddsEntry s name value t
Adds s (upper name) t = AddsUpper s name t
Adds s (sum multipliers) t = AddsSum s multipliers t
Adds s (grid n) t = AddsGrid s n t
Adds s (round n) t = AddsRound s n t

-- or is refused
abbrev pub Refuses : Task → ProblemLine → Reason → Type 0
Refuses s (column name is_whole low high) e = RefusesColumn s name low high e
Refuses s (constraint name sense right) e = RefusesConstraint s name e
Refuses s (entry name value) e = RefusesEntry s name e
Refuses s (upper name) e = Unless (IsKnown s name) reason.Place Never e
Refuses s (sum multipliers) e = RefusesSum s multipliers e
Refuses s (grid n) e = Unless (s.grid ≡ None) reason.Form Never e
Refuses s (round n) e = Unless (s.round ≡ None) reason.Form Never e

abbrev pub task_rule : Task → LineRule Task
task_rule s = made_rule (Adds s) (Refuses s) told_rule
