-- The problem that a text tells is readable.
use Rattle.std.proofs.Common.{◌≡◌, ◌⊎◌, inl, inr, ℕ, ◌+◌, ◌<◌, ◌≤◌, Bool, true, false, Option, Some, None, IfSome, List, [], ◌∷◌, ◌++◌, All, flat_map, length, length-append, append_assoc, append-nil, refl, sym, ap, subst, ◌∙◌, arith}
use Rattle.std.proofs.lemmas.Grind.{flat_map-append}
use Rattle.std.proofs.lemmas.List.Elements.{All-nil, All-push, All-weaker}
use Rattle.gj_lex.specs.Name.{IsName}
use Rattle.gj_forms.specs.Parts.{ReadsInTurn}
use Rattle.gj_forms.specs.Parts.ReadsInTurn.{last, onward}
use Rattle.gj_problem.specs.declared.problem.Constraint.{Constraint}
use Rattle.gj_problem.specs.declared.problem.Entry.{Entry}
use Rattle.gj_problem.specs.declared.problem.Problem.{Problem}
use Rattle.gj_problem_text.specs.CutText.{AreNames}
use Rattle.gj_problem_text.specs.PrintedInput.{all_entries}
use Rattle.gj_problem_text.specs.ProblemLines.{ProblemLine, HasProblemLine, column, constraint, entry, upper, sum, grid, round}
use Rattle.gj_problem_text.specs.Tasks.{most_columns, most_constraints, most_entries, Adds, AreLonger}
use Rattle.gj_problem_text.specs.declared.task.Task.{Task}
use Rattle.gj_derivation_text.specs.DerivationText.{no_drafts, new_name, AddsName, AddsLine, next_of_problem}
use Rattle.gj_derivation_text.specs.declared.drafts.Drafts.{Drafts}
use Rattle.gj_derivation_text.proofs.NamesTold.{index_below, no_names, one_more_name}

-- ---- the task

abbrev entries_of : List Constraint → List Entry
entries_of constraints = flat_map (λ c. c.entries) constraints

-- what holds of a task of which some lines are told
pub record IsTask (s : Task) : Type 0 where
  pub names : AreNames s.names
  pub column_count : length s.names ≡ length s.problem.columns
  pub columns_few : length s.names ≤ most_columns
  pub constraints_few : length s.problem.constraints ≤ most_constraints
  pub known : All (λ (e : Entry). e.column < length s.names) (all_entries s.problem)
  pub entries : s.entries ≡ length (all_entries s.problem)
  pub entries_few : s.entries ≤ most_entries
  pub grid : IfSome s.grid (λ n. 0 < n)

-- one more entry of the last constraint is one more of all
longer_entries : (old : List Constraint) (e : Entry) (new : List Constraint) → AreLonger old e new →
    entries_of new ≡ entries_of old ++ e ∷ []
longer_entries old e new h =
    let all = λ (cs : List Constraint). entries_of cs in
    let front = entries_of h.others in
    let more : Constraint =
    record { entries = h.last.entries ++ e ∷ []; sense = h.last.sense; right = h.last.right } in
    ap all h.new_is ∙ flat_map-append (λ (c : Constraint). c.entries) h.others (more ∷ [])
    ∙ ap (λ (es : List Entry). front ++ es) (append-nil (h.last.entries ++ e ∷ []))
    ∙ sym (append_assoc front h.last.entries (e ∷ []))
    ∙ ap (λ (es : List Entry). (front ++ es) ++ e ∷ []) (sym (append-nil h.last.entries))
    ∙ ap (λ (es : List Entry). es ++ e ∷ [])
    (sym (ap all h.old_is ∙ flat_map-append (λ (c : Constraint). c.entries) h.others (h.last ∷ [])))

longer_count : (old : List Constraint) (e : Entry) (new : List Constraint) → AreLonger old e new →
    length new ≡ length old
longer_count old e new h =
    omega (
      arith,
      ap length h.new_is,
      ap length h.old_is,
      length-append h.others (h.last ∷ []),
      length-append h.others
          (record { entries = h.last.entries ++ e ∷ []; sense = h.last.sense; right = h.last.right }
          ∷ []),
    )

bare_entries : (constraints : List Constraint) (c : Constraint) → c.entries ≡ [] →
    entries_of (constraints ++ c ∷ []) ≡ entries_of constraints
bare_entries constraints c none =
    flat_map-append (λ (d : Constraint). d.entries) constraints (c ∷ [])
    ∙ ap (λ (es : List Entry). entries_of constraints ++ (es ++ [])) none
    ∙ append-nil (entries_of constraints)

adds_task : (s : Task) (line : ProblemLine) (t : Task) → HasProblemLine line → Adds s line t →
    IsTask s → IsTask t
adds_task s (column name is_whole low high) t has a h =
    let more = length-append s.names (name ∷ []) in
    subst IsTask (sym a.added) (record {
      names = one_more_name s.names name h.names a.is_name a.new;
      column_count = omega (
        arith,
        more,
        h.column_count,
        length-append s.problem.columns
            (record { is_whole = is_whole; lower = a.lower; upper = a.upper } ∷ []),
      );
      columns_few = omega (arith, more, a.few);
      constraints_few = h.constraints_few;
      known = All-weaker (λ (e : Entry). e.column < length s.names)
          (λ (e : Entry). e.column < length (s.names ++ name ∷ []))
          (λ e below. omega (arith, more)) (all_entries s.problem) h.known;
      entries = h.entries;
      entries_few = h.entries_few;
      grid = h.grid;
    })
adds_task s (constraint name sense right) t has a h =
    let c : Constraint = record { entries = []; sense = sense; right = right } in
    let same = bare_entries s.problem.constraints c refl in
    subst IsTask (sym a.added) (record {
      names = h.names;
      column_count = h.column_count;
      columns_few = h.columns_few;
      constraints_few = omega (arith, length-append s.problem.constraints (c ∷ []), a.few);
      known = subst (All (λ (e : Entry). e.column < length s.names)) (sym same) h.known;
      entries = h.entries ∙ ap length (sym same);
      entries_few = h.entries_few;
      grid = h.grid;
    })
adds_task s (entry name value) t has a h =
    let e : Entry = record { column = a.index; value = value } in
    let same = longer_entries s.problem.constraints e a.constraints a.longer in
    subst IsTask (sym a.added) (record {
      names = h.names;
      column_count = h.column_count;
      columns_few = h.columns_few;
      constraints_few = omega
          (arith, longer_count s.problem.constraints e a.constraints a.longer, h.constraints_few);
      known = subst (All (λ (d : Entry). d.column < length s.names)) (sym same)
          (All-push (λ (d : Entry). d.column < length s.names) (all_entries s.problem) e h.known
          (index_below s.names name a.index a.index_is));
      entries = omega (
        arith,
        h.entries,
        ap length same,
        length-append (all_entries s.problem)
            (e ∷ []),
      );
      entries_few = omega (arith, a.few);
      grid = h.grid;
    })
adds_task s (upper name) t has a h =
    subst IsTask (sym a.added) (record {
      names = h.names;
      column_count = h.column_count;
      columns_few = h.columns_few;
      constraints_few = h.constraints_few;
      known = h.known;
      entries = h.entries;
      entries_few = h.entries_few;
      grid = h.grid;
    })
adds_task s (sum multipliers) t has a h =
    subst IsTask (sym a.added) (record {
      names = h.names;
      column_count = h.column_count;
      columns_few = h.columns_few;
      constraints_few = h.constraints_few;
      known = h.known;
      entries = h.entries;
      entries_few = h.entries_few;
      grid = h.grid;
    })
adds_task s (grid n) t has a h =
    subst IsTask (sym a.added) (record {
      names = h.names;
      column_count = h.column_count;
      columns_few = h.columns_few;
      constraints_few = h.constraints_few;
      known = h.known;
      entries = h.entries;
      entries_few = h.entries_few;
      grid = has.0;
    })
adds_task s (round n) t has a h =
    subst IsTask (sym a.added) (record {
      names = h.names;
      column_count = h.column_count;
      columns_few = h.columns_few;
      constraints_few = h.constraints_few;
      known = h.known;
      entries = h.entries;
      entries_few = h.entries_few;
      grid = h.grid;
    })

-- ---- the names of the constraints

-- what holds of drafts of which lines of the problem are told
pub record IsProblem (s : Drafts) : Type 0 where
  pub task : IsTask s.task
  pub lines : AreNames s.lines
  pub count : length s.lines ≡ length s.task.problem.constraints
  pub steps : s.steps ≡ []
  pub left : s.left ≡ []

-- the line of a constraint is one more, with its name; another line is none
is_more : (s : Task) (line : ProblemLine) (t : Task) (lines new : List (List ℕ)) → Adds s line t →
    AddsName lines (new_name line) new →
    AreNames lines → length lines ≡ length s.problem.constraints →
    AreNames new × (length new ≡ length t.problem.constraints)
is_more s (constraint name sense right) t lines new a (none, is) names count =
    let c : Constraint = record { entries = []; sense = sense; right = right } in (
      subst AreNames (sym is) (one_more_name lines name names a.is_name none),
      omega (
        arith,
        ap length is,
        length-append lines (name ∷ []),
        length-append s.problem.constraints (c ∷ []),
        count,
        ap (λ (u : Task). length u.problem.constraints) a.added,
      ),
    )
is_more s (entry name value) t lines new a is names count =
    let e : Entry = record { column = a.index; value = value } in (
      subst AreNames (sym is) names,
      omega (
        arith,
        ap length is,
        count,
        ap (λ (u : Task). length u.problem.constraints) a.added,
        longer_count s.problem.constraints e a.constraints a.longer,
      ),
    )
is_more s (column name is_whole low high) t lines new a is names count = (
  subst AreNames (sym is) names,
  omega
      (arith, ap length is, count, ap (λ (u : Task). length u.problem.constraints) a.added),
)
is_more s (upper name) t lines new a is names count = (
  subst AreNames (sym is) names,
  omega
      (arith, ap length is, count, ap (λ (u : Task). length u.problem.constraints) a.added),
)
is_more s (sum multipliers) t lines new a is names count = (
  subst AreNames (sym is) names,
  omega
      (arith, ap length is, count, ap (λ (u : Task). length u.problem.constraints) a.added),
)
is_more s (grid n) t lines new a is names count = (
  subst AreNames (sym is) names,
  omega
      (arith, ap length is, count, ap (λ (u : Task). length u.problem.constraints) a.added),
)
is_more s (round n) t lines new a is names count = (
  subst AreNames (sym is) names,
  omega
      (arith, ap length is, count, ap (λ (u : Task). length u.problem.constraints) a.added),
)

adds_problem : (s : Drafts) (line : ProblemLine) (t : Drafts) → HasProblemLine line →
    AddsLine s line t → IsProblem s → IsProblem t
adds_problem s line t has (task, adds, lines, names, is) h =
    let more = is_more s.task line task s.lines lines adds names h.lines h.count in
    subst IsProblem (sym is) (record {
      task = adds_task s.task line task has adds h.task;
      lines = more.0;
      count = more.1;
      steps = h.steps;
      left = h.left;
    })

-- ---- all lines

same_end : (s t : Drafts) → ◌≡◌ {A = Drafts ⊎ Drafts} (inr t) (inr s) → t ≡ s
same_end s t e = cc

same_next : (s t : Drafts) → ◌≡◌ {A = Drafts ⊎ Drafts} (inl t) (inl s) → t ≡ s
same_next s t e = cc

apart : (s t : Drafts) → ◌≡◌ {A = Drafts ⊎ Drafts} (inl t) (inr s) → ⊥
apart s t e = cc

pub problem_in_turn : (drafts : Bool) (t : Drafts) (rest : List ℕ) (s : Drafts) (text : List ℕ) →
    ReadsInTurn (λ u. (next_of_problem drafts u).Reads) t rest s text → IsProblem s → IsProblem t
problem_in_turn drafts t rest s text (last _ _ (inl (goes, (same, at)))) h =
    subst IsProblem (sym (same_end s t same)) h
problem_in_turn drafts t rest s text (last _ _ (inr (not, (u, one, same)))) h =
    absurd (apart t u (sym same))
problem_in_turn drafts t rest s text (onward _ _ next middle (inl (goes, (same, at))) more) h =
    absurd (apart s next same)
problem_in_turn drafts t rest s text
    (onward _ _ next middle
    (inr (not, (u, (start, words, line, (free, (told, spelled, adds))), same))) more) h =
    problem_in_turn drafts t rest next middle more
    (subst IsProblem (sym (same_next u next same)) (adds_problem s told u spelled.1 adds h))

pub no_problem : IsProblem no_drafts
no_problem = record {
  task = record {
    names = no_names;
    column_count = refl;
    columns_few = omega arith;
    constraints_few = omega arith;
    known = All-nil (λ (e : Entry). e.column < 0);
    entries = refl;
    entries_few = omega arith;
    grid = tt;
  };
  lines = no_names;
  count = refl;
  steps = refl;
  left = refl;
}
