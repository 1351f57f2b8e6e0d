-- The lines of a problem as they are printed are read as the problem, with the names of its
-- constraints.
use Rattle.std.proofs.Common.{◌≡◌, inl, inr, ℕ, Bool, false, Option, Some, None, List, [], ◌∷◌}
use Rattle.std.proofs.Common.{◌++◌, map, length, codes, append-nil, append_assoc, refl, sym, ap}
use Rattle.std.proofs.Common.{ap₂, subst, ◌∙◌, arith}
use Rattle.std.proofs.lemmas.List.Elements.{All-nil}
use Rattle.gj_lex.specs.declared.spelling.Spelling.TheVariants.{Lenient}
use Rattle.gj_forms.specs.LineForms.{words_of, first_of, line_of}
use Rattle.gj_forms.specs.Parts.{ReadsInTurn}
use Rattle.gj_forms.specs.Parts.ReadsInTurn.{last, onward}
use Rattle.gj_forms.specs.TextLines.{HasLine}
use Rattle.gj_forms.proofs.PlainWords.{are_same, apart}
use Rattle.gj_forms.proofs.SpelledLines.{has_its_line}
use Rattle.gj_forms.proofs.WhereLaws.{other_word}
use Rattle.gj_problem.specs.declared.problem.Column.{Column}
use Rattle.gj_problem.specs.declared.problem.Constraint.{Constraint}
use Rattle.gj_problem.specs.declared.problem.Entry.{Entry}
use Rattle.gj_problem.specs.declared.problem.Problem.{Problem}
use Rattle.gj_problem_text.specs.CutText.{AreNames}
use Rattle.gj_problem_text.specs.PrintedInput.{all_entries, IsRequestOf}
use Rattle.gj_problem_text.specs.PrintedProblem.{entry_told, constraint_told}
use Rattle.gj_problem_text.specs.PrintedProblem.{each_told, problem_told, printed, problem_lines}
use Rattle.gj_problem_text.specs.ProblemLines.{ProblemLine, column, constraint, entry, upper, sum}
use Rattle.gj_problem_text.specs.ProblemLines.{grid, round, problem_fields, problem_form}
use Rattle.gj_problem_text.specs.ProblemText.{no_task}
use Rattle.gj_problem_text.specs.Tasks.{Adds}
use Rattle.gj_problem_text.specs.declared.task.Request.{Request}
use Rattle.gj_problem_text.specs.declared.task.Task.{Task}
use Rattle.gj_problem_text.proofs.PrintedInputs.{no_comment}
use Rattle.gj_problem_text.proofs.NumberLines.{tells_its_thing}
use Rattle.gj_problem_text.proofs.PrintedTasks.{IsPrintedLine, AddsAll, no_place, next_differs, columns_told}
use Rattle.gj_problem_text.proofs.PrintedTasks.{task_is_told}
use Rattle.gj_derivation_text.specs.DerivationText.{new_name, AddsName, AreBarred, next_of_problem}
use Rattle.gj_derivation_text.specs.DerivationText.{problem_part}
use Rattle.gj_derivation_text.specs.OpenSteps.{StepsGoOn}
use Rattle.gj_derivation_text.specs.Readable.{IsReadableProblem}
use Rattle.gj_derivation_text.specs.declared.drafts.Drafts.{Drafts}

-- ---- one line

-- it is of a column, of a constraint or of an entry
abbrev IsOwn : ProblemLine → Type 0
IsOwn (column name is_whole low high) = Unit {0}
IsOwn (constraint name sense right) = Unit {0}
IsOwn (entry name value) = Unit {0}
IsOwn (upper name) = ⊥
IsOwn (sum multipliers) = ⊥
IsOwn (grid n) = ⊥
IsOwn (round n) = ⊥

-- and begins with the word for it
other_first : (l : ProblemLine) (w : List ℕ) → IsOwn l → are_same (codes "column") w ≡ false →
    are_same (codes "constraint") w ≡ false → are_same (codes "entry") w ≡ false →
    first_of (words_of (problem_fields l)) ≡ w → ⊥
other_first (column name is_whole low high) w own a b c is = apart (codes "column") w a is
other_first (constraint name sense right) w own a b c is = apart (codes "constraint") w b is
other_first (entry name value) w own a b c is = apart (codes "entry") w c is
other_first (upper name) w own a b c is = absurd own
other_first (sum multipliers) w own a b c is = absurd own
other_first (grid n) w own a b c is = absurd own
other_first (round n) w own a b c is = absurd own

no_bar : (drafts : Bool) (l : ProblemLine) → IsOwn l →
    AreBarred drafts (words_of (problem_fields l)) → ⊥
no_bar drafts l own (inl is) = other_first l (codes "upper") own refl refl refl is
no_bar drafts l own (inr (inl is)) = other_first l (codes "sum") own refl refl refl is
no_bar drafts l own (inr (inr (inl is))) = other_first l (codes "round") own refl refl refl is
no_bar drafts l own (inr (inr (inr (off, is)))) =
    other_first l (codes "grid") own refl refl refl is

no_step : (l : ProblemLine) (text rest : List ℕ) → IsOwn l →
    HasLine Lenient text text (words_of (problem_fields l)) rest → StepsGoOn text → ⊥
no_step l text rest own line (inl begins) =
    other_word Lenient text text (words_of (problem_fields l)) (codes "step") rest line
    (λ more e. other_first l (codes "step") own refl refl refl (ap first_of e)) begins
no_step l text rest own line (inr begins) =
    other_word Lenient text text (words_of (problem_fields l)) (codes "end") rest line
    (λ more e. other_first l (codes "end") own refl refl refl (ap first_of e)) begins

-- a problem of which this is told, and no step
abbrev pub told : Task → List (List ℕ) → Drafts
told task lines = record { task = task; lines = lines; steps = []; left = [] }

line_is_read : (drafts : Bool) (s u : Task) (lines new : List (List ℕ)) (l : ProblemLine)
    (text rest : List ℕ) → IsOwn l → IsPrintedLine l →
    Adds s l u → AddsName lines (new_name l) new → text ≡ line_of problem_form l ++ rest →
    (next_of_problem drafts (told s lines)).Reads text (inl (told u new)) rest
line_is_read drafts s u lines new l text rest own (good, has) adds name is =
    let words = words_of (problem_fields l) in
    let found = has_its_line Lenient (problem_fields l) text rest good (no_comment l) is in
    let tells = tells_its_thing problem_form l good has in
    inr (
      no_step l text rest own found,
      (
        told u new,
        (
          text,
          words,
          found,
          (no_bar drafts l own, (l, tells, (u, adds, new, name, refl))),
        ),
        refl,
      ),
    )

-- ---- names

abbrev with_new : Option (List ℕ) → List (List ℕ) → List (List ℕ)
with_new None names = names
with_new (Some name) names = name ∷ names

-- the names that the lines give to constraints
abbrev names_told : List ProblemLine → List (List ℕ)
names_told [] = []
names_told (l ∷ ls) = with_new (new_name l) (names_told ls)

name_added : (lines : List (List ℕ)) (name : Option (List ℕ)) (behind : List (List ℕ)) →
    AreNames (lines ++ with_new name behind) →
    (new : List (List ℕ)) × AddsName lines name new
    × (new ++ behind ≡ lines ++ with_new name behind)
name_added lines None behind are = (lines, refl, refl)
name_added lines (Some name) behind are =
    let new = no_place lines name (next_differs lines name behind are) in
    (lines ++ name ∷ [], (new, refl), append_assoc lines (name ∷ []) behind)

-- ---- all lines

abbrev AreOwn : List ProblemLine → Type 0
AreOwn [] = Unit {0}
AreOwn (l ∷ ls) = IsOwn l × AreOwn ls

lines_are_read : (drafts : Bool) (s t : Task) (lines : List (List ℕ)) (ls : List ProblemLine)
    (text rest : List ℕ) → AreOwn ls → AddsAll s ls t →
    AreNames (lines ++ names_told ls) → StepsGoOn rest → text ≡ printed ls ++ rest →
    ReadsInTurn (λ u. (next_of_problem drafts u).Reads) (told t (lines ++ names_told ls)) rest
    (told s lines) text
lines_are_read drafts s t lines [] text rest own same are on is =
    let back = sym same in
    let none = append-nil lines in
    last (told s lines) text
    (inl (subst StepsGoOn (sym is) on, (λ i. inr (told (back i) (none i)), is)))
lines_are_read drafts s t lines (l ∷ ls) text rest own (u, good, adds, more) are on is =
    let behind = printed ls ++ rest in
    let (new, name, whole) = name_added lines (new_name l) (names_told ls) are in
    let one = line_is_read drafts s u lines new l text behind own.0 good adds name
    (is ∙ append_assoc (line_of problem_form l) (printed ls) rest) in
    let others = lines_are_read drafts u t new ls behind rest own.1 more
    (subst AreNames (sym whole) are) on refl in
    onward (told s lines) text (told u new) behind one
    (subst
    (λ (all : List (List ℕ)).
    ReadsInTurn (λ v. (next_of_problem drafts v).Reads) (told t all) rest (told u new) behind)
    whole others)

-- ---- the lines of a problem

own_behind : (ls ms : List ProblemLine) → AreOwn ls → AreOwn ms → AreOwn (ls ++ ms)
own_behind [] ms h k = k
own_behind (l ∷ ls) ms h k = (h.0, own_behind ls ms h.1 k)

with_behind : (name : Option (List ℕ)) (xs ys : List (List ℕ)) →
    with_new name (xs ++ ys) ≡ with_new name xs ++ ys
with_behind None xs ys = refl
with_behind (Some name) xs ys = refl

names_behind : (ls ms : List ProblemLine) → names_told (ls ++ ms) ≡ names_told ls ++ names_told ms
names_behind [] ms = refl
names_behind (l ∷ ls) ms =
    ap (λ (names : List (List ℕ)). with_new (new_name l) names) (names_behind ls ms)
    ∙ with_behind (new_name l) (names_told ls) (names_told ms)

columns_own : (names : List (List ℕ)) (columns : List Column) →
    AreOwn (columns_told names columns) × (names_told (columns_told names columns) ≡ [])
columns_own [] [] = (tt, refl)
columns_own [] (c ∷ columns) = (tt, refl)
columns_own (name ∷ names) [] = (tt, refl)
columns_own (name ∷ names) (c ∷ columns) =
    let more = columns_own names columns in
    ((tt, more.0), more.1)

entries_own : (columns : List (List ℕ)) (entries : List Entry) →
    AreOwn (map (entry_told columns) entries) × (names_told (map (entry_told columns) entries) ≡ [])
entries_own columns [] = (tt, refl)
entries_own columns (e ∷ entries) = let more = entries_own columns entries in ((tt, more.0), more.1)

constraints_own : (columns names : List (List ℕ)) (constraints : List Constraint) →
    AreOwn (each_told (constraint_told columns) names constraints)
constraints_own columns [] [] = tt
constraints_own columns [] (c ∷ constraints) = tt
constraints_own columns (name ∷ names) [] = tt
constraints_own columns (name ∷ names) (c ∷ constraints) =
    own_behind (constraint_told columns name c)
    (each_told (constraint_told columns) names constraints)
    (tt, (entries_own columns c.entries).0) (constraints_own columns names constraints)

constraints_named : (columns names : List (List ℕ)) (constraints : List Constraint) →
    length names ≡ length constraints →
    names_told (each_told (constraint_told columns) names constraints) ≡ names
constraints_named columns [] [] count = refl
constraints_named columns [] (c ∷ constraints) count = absurd (omega (arith, count))
constraints_named columns (name ∷ names) [] count = absurd (omega (arith, count))
constraints_named columns (name ∷ names) (c ∷ constraints) count =
    names_behind (constraint_told columns name c)
    (each_told (constraint_told columns) names constraints)
    ∙ ap₂ (λ (own others : List (List ℕ)). name ∷ (own ++ others)) (entries_own columns c.entries).1
    (constraints_named columns names constraints (omega (arith, count)))

-- the problem with the names of its columns
abbrev pub task_of : List (List ℕ) → Problem → Task
task_of columns p = record {
  names = columns;
  problem = p;
  entries = length (all_entries p);
  requests = [];
  sums = 0;
  grid = None;
  round = None;
}

all_told : (columns constraints : List (List ℕ)) (p : Problem) → IsReadableProblem columns p →
    AreNames constraints → length constraints ≡ length p.constraints →
    AddsAll no_task (problem_told columns constraints p) (task_of columns p)
all_told columns constraints p h are count =
    let ls = problem_told columns constraints p in
    subst (λ (ms : List ProblemLine). AddsAll no_task ms (task_of columns p))
    (append-nil (ls ++ [] ++ []) ∙ append-nil (ls ++ []) ∙ append-nil ls)
    (task_is_told constraints (task_of columns p) (record {
      column_names = h.names;
      columns = h.column_count;
      columns_few = h.columns_few;
      are_names = are.are;
      constraints = count;
      constraints_few = omega (arith, count, h.constraints_few);
      known = h.known;
      entries = refl;
      entries_few = h.entries_few;
      requests = All-nil (λ (r : Request). IsRequestOf (length columns) (length constraints) r);
      sums = refl;
      steps = omega arith;
      grid = tt;
      round = tt;
    }))

pub problem_is_read : (columns constraints : List (List ℕ)) (p : Problem) (text rest : List ℕ) →
    IsReadableProblem columns p → AreNames constraints →
    length constraints ≡ length p.constraints → StepsGoOn rest →
    text ≡ problem_lines columns constraints p ++ rest →
    (problem_part false).Reads text (told (task_of columns p) constraints) rest
problem_is_read columns constraints p text rest h are count on is =
    let front = columns_told columns p.columns in
    let back = each_told (constraint_told columns) constraints p.constraints in
    let ls = problem_told columns constraints p in
    let named : names_told ls ≡ constraints =
    names_behind front back
    ∙ ap₂ (λ (xs ys : List (List ℕ)). xs ++ ys) (columns_own columns p.columns).1
    (constraints_named columns constraints p.constraints count) in
    let own = own_behind front back (columns_own columns p.columns).0
    (constraints_own columns constraints p.constraints) in
    let task = task_of columns p in
    let read = lines_are_read false no_task task [] ls text rest own
    (all_told columns constraints p h are count) (subst AreNames (sym named) are) on is in
    subst (λ (all : List (List ℕ)). (problem_part false).Reads text (told task all) rest) named
    read
