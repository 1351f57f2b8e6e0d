-- The lines of a task as they are printed make it, one after another.
use Rattle.std.proofs.Common.{◌≡◌, ◌≢◌, ◌<◌, ◌≤◌, inl, ℕ, ◌+◌, ◌*◌, Option, Some, None, IfSome, codes}
use Rattle.std.proofs.Common.{Bool, true, false, nat_eq, List, [], ◌∷◌, ◌++◌, All, flat_map, map}
use Rattle.std.proofs.Common.{length, arith}
use Rattle.std.proofs.Common.{append_assoc, append-nil, length-append, refl, sym, ap, subst, subst₂, ◌∙◌}
use Rattle.std.specs.Cmp.Lexicographic.{pointwise, bytes_decides}
use Rattle.std.specs.List.{position, position_or_len}
use Rattle.std.proofs.Math.Nat.{mul-le-mul_right}
use Rattle.std.proofs.Math.Seq.{get_or-append_seam}
use Rattle.std.proofs.lemmas.Bool.{lt-ltb, le-ltb, false_from_ne_true}
use Rattle.std.proofs.lemmas.List.{get_or_append_left}
use Rattle.std.proofs.lemmas.List.Elements.{All-get_or, All-head, All-tail}
use Rattle.std.proofs.lemmas.List.Sums.{position_or_len_is}
use Rattle.gj_lemmas.proofs.Lists.{All-front, All-back}
use Rattle.gj_frac.specs.declared.Frac.{Frac}
use Rattle.gj_lex.specs.Name.{IsName}
use Rattle.gj_lex.specs.declared.spelling.Spelling.TheVariants.{Lenient}
use Rattle.gj_lex.specs.NumberText.{fraction_text, IsWritten}
use Rattle.gj_lex.specs.NumberText.IsWritten.{whole, ratio, point}
use Rattle.gj_lex.specs.SpelledNumbers.{IsFractionWord}
use Rattle.gj_lex.proofs.SpelledWords.{canonical_fraction, fraction_is_plain}
use Rattle.gj_lex.proofs.WordBytes.{IsPlain}
use Rattle.gj_forms.specs.LineForms.Field.{word, fraction}
use Rattle.gj_forms.proofs.FieldWords.{AreGood}
use Rattle.gj_forms.proofs.PlainWords.{known, name_is_plain}
use Rattle.gj_problem.specs.declared.problem.Column.{Column}
use Rattle.gj_problem.specs.declared.problem.Constraint.{Constraint}
use Rattle.gj_problem.specs.declared.problem.Entry.{Entry}
use Rattle.gj_problem.specs.declared.problem.Sense.{Sense}
use Rattle.gj_problem.specs.declared.problem.Sense.TheVariants.{AtMost, AtLeast, Equal}
use Rattle.gj_problem_text.specs.CutText.{AreNames, name_at}
use Rattle.gj_problem_text.specs.PrintedInput.{grid_told, round_told, request_told, task_told, all_entries}
use Rattle.gj_problem_text.specs.PrintedInput.{IsRequestOf, sums_in, IsPrintable}
use Rattle.gj_problem_text.specs.PrintedProblem.{bound_word, column_told, entry_told}
use Rattle.gj_problem_text.specs.PrintedProblem.{constraint_told, each_told, problem_told}
use Rattle.gj_problem_text.specs.ProblemLines.{ProblemLine}
use Rattle.gj_problem_text.specs.ProblemLines.{kind_word, sense_word, problem_fields}
use Rattle.gj_problem_text.specs.ProblemLines.{IsGrid, HasProblemLine}
use Rattle.gj_problem_text.specs.ProblemText.{no_task}
use Rattle.gj_problem_text.specs.Tasks.{most_columns, most_constraints, most_entries}
use Rattle.gj_problem_text.specs.Tasks.{most_steps, steps_of_sum, AreWithinSteps, SpellsBound, Adds}
use Rattle.gj_problem_text.specs.declared.task.Request.{Request}
use Rattle.gj_problem_text.specs.declared.task.Request.TheVariants.{Upper, Sum}
use Rattle.gj_problem_text.specs.declared.task.Task.{Task}

-- ---- one line after another

-- the words of the line are plain, and its numbers are not too large
abbrev pub IsPrintedLine : ProblemLine → Type 0
IsPrintedLine l = AreGood (problem_fields l) × HasProblemLine l

-- such lines make of the task s the task t, one after another
abbrev pub AddsAll : Task → List ProblemLine → Task → Type 0
AddsAll s [] t = s ≡ t
AddsAll s (l ∷ ls) t = (u : Task) × IsPrintedLine l × Adds s l u × AddsAll u ls t

pub adds_behind : (s u t : Task) (ls ms : List ProblemLine) → AddsAll s ls u → AddsAll u ms t →
    AddsAll s (ls ++ ms) t
adds_behind s u t [] ms same h = subst (λ (v : Task). AddsAll v ms t) (sym same) h
adds_behind s u t (l ∷ ls) ms (v, good, one, more) h =
    (v, good, one, adds_behind v u t ls ms more h)

-- ---- names

-- a name that differs from those before has no place among them
pub no_place : (names : List (List ℕ)) (name : List ℕ) →
    ((i : ℕ) → i < length names → name_at names i ≢ name) →
    position (pointwise nat_eq name) names ≡ None
no_place names name differs =
    rw (le-ltb (position_or_len test names) (length names) (omega (arith, last))) refl
  where
    test : List ℕ → Bool
    test = pointwise nat_eq name

    last : position_or_len test names ≡ length names
    last = position_or_len_is test names (length names) [] (omega arith)
        (λ k below. false_from_ne_true (test (name_at names k))
        (λ is. differs k below (sym ((bytes_decides name (name_at names k)).0 is))))
        (λ below. absurd (omega arith))

-- one of different names has its own place
pub own_place : (names : List (List ℕ)) (j : ℕ) → AreNames names → j < length names →
    position (pointwise nat_eq (name_at names j)) names ≡ Some j
own_place names j are below = rw (first, lt-ltb j (length names) below) refl
  where
    test : List ℕ → Bool
    test = pointwise nat_eq (name_at names j)

    first : position_or_len test names ≡ j
    first = position_or_len_is test names j [] (omega arith)
        (λ k before. false_from_ne_true (test (name_at names k)) (λ is.
        let same : j ≡ k = are.different j k below (omega arith)
        ((bytes_decides (name_at names j) (name_at names k)).0 is) in
        omega arith))
        (λ is. (bytes_decides (name_at names j) (name_at names j)).1 refl)

-- the next of different names is none of those before
pub next_differs : (before : List (List ℕ)) (name : List ℕ) (behind : List (List ℕ)) →
    AreNames (before ++ name ∷ behind) → (i : ℕ) → i < length before → name_at before i ≢ name
next_differs before name behind are i below same =
    let all = before ++ name ∷ behind in
    let count : length before < length all = omega (arith, length-append before (name ∷ behind)) in
    let at : name_at all i ≡ name_at all (length before) =
    get_or_append_left before (name ∷ behind) [] i below ∙ same
    ∙ sym (get_or-append_seam before name behind []) in
    let is : i ≡ length before = are.different i (length before) (omega arith) count at in
    omega arith

pub name_is : (before : List (List ℕ)) (name : List ℕ) (behind : List (List ℕ)) →
    AreNames (before ++ name ∷ behind) → IsName name
name_is before name behind are =
    All-head IsName name behind (All-back IsName before (name ∷ behind) are.are)

pub name_at_is : (names : List (List ℕ)) (j : ℕ) → AreNames names → j < length names →
    IsName (name_at names j)
name_at_is names j are below = All-get_or IsName names j [] below are.are

-- ---- columns

abbrev with_columns : Task → List (List ℕ) → List Column → Task
with_columns s names columns = record s {
  names = s.names ++ names;
  problem = record (s.problem) { columns = s.problem.columns ++ columns };
}

-- the word `-` is no number
no_number : (top bottom : ℕ) → IsWritten [] top bottom → ⊥
no_number top bottom (whole digits is one) = omega (arith, digits.0)
no_number top bottom (ratio front back is _ _ _ _) =
    omega (arith, ap length is, length-append front (47 ∷ back))
no_number top bottom (point front back is _ _ _ _) =
    omega (arith, ap length is, length-append front (46 ∷ back))

no_dash : (x : Frac) → fraction_text x ≢ codes "-"
no_dash x is =
    let (n, d, text, value) = subst (λ (w : List ℕ). IsFractionWord Lenient w x) is
    (canonical_fraction Lenient x) in
    no_number text.top d text.written

pub bound_is_spelled : (b : Option Frac) → SpellsBound (bound_word b) b
bound_is_spelled None = refl
bound_is_spelled (Some x) = (no_dash x, inl (canonical_fraction Lenient x))

bound_is_plain : (b : Option Frac) → IsPlain (bound_word b)
bound_is_plain None = known (codes "-") refl
bound_is_plain (Some x) = fraction_is_plain x

kind_is_plain : (is_whole : Bool) → IsPlain (kind_word is_whole)
kind_is_plain true = known (codes "whole") refl
kind_is_plain false = known (codes "continuous") refl

abbrev pub columns_told : List (List ℕ) → List Column → List ProblemLine
columns_told names columns = each_told (λ name c. column_told name c ∷ []) names columns

columns_joined : (s : Task) (name : List ℕ) (names : List (List ℕ)) (c : Column)
    (columns : List Column) → with_columns (with_columns s (name ∷ []) (c ∷ [])) names columns
    ≡ with_columns s (name ∷ names) (c ∷ columns)
columns_joined s name names c columns = λ i. record s {
  names = append_assoc s.names (name ∷ []) names i;
  problem = record (s.problem) { columns = append_assoc s.problem.columns (c ∷ []) columns i };
}

pub adds_columns : (s : Task) (names : List (List ℕ)) (columns : List Column) →
    AreNames (s.names ++ names) → length names ≡ length columns →
    length (s.names ++ names) ≤ most_columns → s.sums ≡ 0 →
    AddsAll s (columns_told names columns) (with_columns s names columns)
adds_columns s [] [] are count few none = λ i. record s {
  names = sym (append-nil s.names) i;
  problem = record (s.problem) { columns = sym (append-nil s.problem.columns) i };
}
adds_columns s [] (c ∷ columns) are count few none = absurd (omega arith)
adds_columns s (name ∷ names) [] are count few none = absurd (omega arith)
adds_columns s (name ∷ names) (c ∷ columns) are count few none =
    let next = with_columns s (name ∷ []) (c ∷ []) in
    let joined = sym (append_assoc s.names (name ∷ []) names) in
    let is_name = name_is s.names name names are in
    let more = adds_columns next names columns (subst AreNames joined are) (omega arith)
    (subst (λ (all : List (List ℕ)). length all ≤ most_columns) joined few) none in (
      next,
      (
        (
          known (codes "column") refl,
          (
            name_is_plain name is_name,
            (kind_is_plain c.is_whole, (bound_is_plain c.lower, bound_is_plain c.upper)),
          ),
        ),
        tt,
      ),
      record {
        is_name = is_name;
        lower = c.lower;
        lower_is = bound_is_spelled c.lower;
        upper = c.upper;
        upper_is = bound_is_spelled c.upper;
        few = omega (arith, length-append s.names (name ∷ names));
        steps = subst (λ (n : ℕ). AreWithinSteps n (steps_of_sum s + 1)) (sym none) (omega arith);
        new = no_place s.names name (next_differs s.names name names are);
        added = refl;
      },
      subst (AddsAll next (columns_told names columns)) (columns_joined s name names c columns)
          more,
    )

-- ---- entries of the last constraint

abbrev with_more : Constraint → List Entry → Constraint
with_more c entries = record c { entries = c.entries ++ entries }

abbrev with_entries : Task → List Constraint → Constraint → List Entry → Task
with_entries s others last entries = record s {
  problem = record (s.problem) { constraints = others ++ with_more last entries ∷ [] };
  entries = s.entries + length entries;
}

some_last : (others : List Constraint) (last : Constraint) → others ++ last ∷ [] ≢ []
some_last others last none =
    omega (arith, ap length none, length-append others (last ∷ []))

adds_entries : (s : Task) (others : List Constraint) (last : Constraint) (entries : List Entry) →
    AreNames s.names → s.requests ≡ [] → s.problem.constraints ≡ others ++ last ∷ [] →
    All (λ e. e.column < length s.names) entries → s.entries + length entries ≤ most_entries →
    AddsAll s (map (entry_told s.names) entries) (with_entries s others last entries)
adds_entries s others last [] are before is known_columns few =
    let constraints : s.problem.constraints ≡ others ++ with_more last [] ∷ [] =
    is ∙ ap (λ (es : List Entry). others ++ record last { entries = es } ∷ [])
    (sym (append-nil last.entries)) in
    let count : s.entries ≡ s.entries + 0 = omega arith in
    λ i. record s {
      problem = record (s.problem) { constraints = constraints i };
      entries = count i;
    }
adds_entries s others last (e ∷ entries) are before is known_columns few =
    let next = with_entries s others last (e ∷ []) in
    let below = All-head (λ (d : Entry). d.column < length s.names) e entries known_columns in
    let more = adds_entries next others (with_more last (e ∷ [])) entries are before refl
    (All-tail (λ (d : Entry). d.column < length s.names) e entries known_columns) (omega arith) in
    let joined = append_assoc last.entries (e ∷ []) entries in
    let count : (s.entries + length (e ∷ [])) + length entries ≡ s.entries + length (e ∷ entries) =
    omega arith in
    let same : with_entries next others (with_more last (e ∷ [])) entries
    ≡ with_entries s others last (e ∷ entries) =
    λ i. record s {
      problem = record (s.problem) {
        constraints = others ++ record last { entries = joined i } ∷ [];
      };
      entries = count i;
    } in (
      next,
      (
        (
          known (codes "entry") refl,
          (
            name_is_plain (name_at s.names e.column)
                (name_at_is s.names e.column are below),
            tt,
          ),
        ),
        tt,
      ),
      record {
        takes = (before, λ none. some_last others last (sym is ∙ none));
        few = omega arith;
        index = e.column;
        index_is = own_place s.names e.column are below;
        constraints = others ++ with_more last (e ∷ []) ∷ [];
        longer = record { others = others; last = last; old_is = is; new_is = refl };
        added = refl;
      },
      subst (AddsAll next (map (entry_told s.names) entries)) same more,
    )

-- ---- constraints with their entries

abbrev entries_of : List Constraint → List Entry
entries_of constraints = flat_map (λ c. c.entries) constraints

abbrev with_constraints : Task → List Constraint → Task
with_constraints s constraints = record s {
  problem = record (s.problem) { constraints = s.problem.constraints ++ constraints };
  entries = s.entries + length (entries_of constraints);
}

sense_is_plain : (sense : Sense) → IsPlain (sense_word sense)
sense_is_plain AtMost = known (codes "<=") refl
sense_is_plain AtLeast = known (codes ">=") refl
sense_is_plain Equal = known (codes "=") refl

-- a constraint without its entries
abbrev bare : Constraint → Constraint
bare c = record c { entries = [] }

abbrev with_bare : Task → Constraint → Task
with_bare s c = record s {
  problem = record (s.problem) { constraints = s.problem.constraints ++ bare c ∷ [] };
}

-- one constraint
adds_constraint : (s : Task) (name : List ℕ) (c : Constraint) → AreNames s.names →
    s.requests ≡ [] → IsName name → length s.problem.constraints < most_constraints →
    All (λ e. e.column < length s.names) c.entries →
    s.entries + length c.entries ≤ most_entries →
    AddsAll s (constraint_told s.names name c)
    (with_entries (with_bare s c) s.problem.constraints (bare c) c.entries)
adds_constraint s name c are before is_name few known_columns within = (
  with_bare s c,
  (
    (
      known (codes "constraint") refl,
      (name_is_plain name is_name, (sense_is_plain c.sense, tt)),
    ),
    tt,
  ),
  record { before = before; is_name = is_name; few = few; added = refl },
  adds_entries (with_bare s c) s.problem.constraints (bare c) c.entries are before refl
      known_columns within,
)

constraints_joined : (s : Task) (c : Constraint) (constraints : List Constraint) →
    with_constraints (with_entries (with_bare s c) s.problem.constraints (bare c) c.entries)
    constraints ≡ with_constraints s (c ∷ constraints)
constraints_joined s c constraints =
    let joined = append_assoc s.problem.constraints (c ∷ []) constraints in
    let count : (s.entries + length c.entries) + length (entries_of constraints)
    ≡ s.entries + length (entries_of (c ∷ constraints)) =
    omega (arith, length-append c.entries (entries_of constraints)) in
    λ i. record s {
      problem = record (s.problem) { constraints = joined i };
      entries = count i;
    }

pub adds_constraints : (s : Task) (names : List (List ℕ)) (constraints : List Constraint) →
    AreNames s.names → s.requests ≡ [] → All IsName names → length names ≡ length constraints →
    length s.problem.constraints + length constraints ≤ most_constraints →
    All (λ e. e.column < length s.names) (entries_of constraints) →
    s.entries + length (entries_of constraints) ≤ most_entries →
    AddsAll s (each_told (constraint_told s.names) names constraints)
    (with_constraints s constraints)
adds_constraints s [] [] are before all count few known_columns within =
    let same : s.entries ≡ s.entries + 0 = omega arith in
    λ i. record s {
      problem = record (s.problem) { constraints = sym (append-nil s.problem.constraints) i };
      entries = same i;
    }
adds_constraints s [] (c ∷ constraints) are before all count few known_columns within =
    absurd (omega arith)
adds_constraints s (name ∷ names) [] are before all count few known_columns within =
    absurd (omega arith)
adds_constraints s (name ∷ names) (c ∷ constraints) are before all count few known_columns within =
    let Known = λ (e : Entry). e.column < length s.names in
    let sum = length-append c.entries (entries_of constraints) in
    let next = with_entries (with_bare s c) s.problem.constraints (bare c) c.entries in
    let first = adds_constraint s name c are before (All-head IsName name names all) (omega arith)
    (All-front Known c.entries (entries_of constraints) known_columns)
    (omega (arith, sum)) in
    let more = adds_constraints next names constraints are before (All-tail IsName name names all)
    (omega arith) (omega (arith, length-append s.problem.constraints (c ∷ [])))
    (All-back Known c.entries (entries_of constraints) known_columns)
    (omega (arith, sum)) in
    adds_behind s next (with_constraints s (c ∷ constraints)) (constraint_told s.names name c)
    (each_told (constraint_told s.names) names constraints) first
    (subst (AddsAll next (each_told (constraint_told s.names) names constraints))
    (constraints_joined s c constraints) more)

-- ---- the grids, and requests

adds_grid : (s : Task) (n : Option ℕ) → s.grid ≡ None → IfSome n IsGrid →
    AddsAll s (grid_told n) (record s { grid = n })
adds_grid s None none is = λ i. record s { grid = none i }
adds_grid s (Some n) none is = (
  record s { grid = Some n },
  ((known (codes "grid") refl, (let below = is.1 in omega arith)), is),
  record { none = none; added = refl },
  refl,
)

adds_round : (s : Task) (n : Option ℕ) → s.round ≡ None → IfSome n IsGrid →
    AddsAll s (round_told n) (record s { round = n })
adds_round s None none is = λ i. record s { round = none i }
adds_round s (Some n) none is = (
  record s { round = Some n },
  ((known (codes "round") refl, (let below = is.1 in omega arith)), is),
  record { none = none; added = refl },
  refl,
)

numbers_are_good : (numbers : List Frac) (w : List ℕ) → IsPlain w →
    AreGood (word w ∷ map fraction numbers)
numbers_are_good [] w plain = plain
numbers_are_good (x ∷ numbers) w plain = (plain, rest x numbers)
  where
    rest : (x : Frac) (numbers : List Frac) → AreGood (fraction x ∷ map fraction numbers)
    rest x [] = tt
    rest x (y ∷ numbers) = (tt, rest y numbers)

abbrev with_requests : Task → List Request → Task
with_requests s requests = record s {
  requests = s.requests ++ requests;
  sums = s.sums + sums_in requests;
}

-- so many more sums are within the steps
abbrev HaveSteps : Task → ℕ → Type 0
HaveSteps s more = (s.sums + more) * steps_of_sum s ≤ most_steps

fewer_have_steps : (s : Task) (few many : ℕ) → few ≤ many → HaveSteps s many → HaveSteps s few
fewer_have_steps s few many fewer within =
    let times : (s.sums + few) * steps_of_sum s ≤ (s.sums + many) * steps_of_sum s =
    mul-le-mul_right (steps_of_sum s) (omega arith) in
    omega arith

sums_of_both : (r : Request) (requests : List Request) →
    sums_in (r ∷ requests) ≡ sums_in (r ∷ []) + sums_in requests
sums_of_both (Upper j) requests = omega arith
sums_of_both (Sum multipliers) requests = omega arith

adds_request : (s : Task) (r : Request) → AreNames s.names →
    IsRequestOf (length s.names) (length s.problem.constraints) r →
    HaveSteps s (sums_in (r ∷ [])) →
    IsPrintedLine (request_told s.names r)
    × Adds s (request_told s.names r) (with_requests s (r ∷ []))
adds_request s (Upper j) are below steps =
    let count : s.sums + 0 ≡ s.sums = omega arith in (
      (
        (
          known (codes "upper") refl,
          name_is_plain (name_at s.names j) (name_at_is s.names j are below),
        ),
        tt,
      ),
      record {
        index = j;
        index_is = own_place s.names j are below;
        added = λ i. record s { requests = s.requests ++ Upper j ∷ []; sums = count i };
      },
    )
adds_request s (Sum multipliers) are count steps = (
  (numbers_are_good multipliers (codes "sum") (known (codes "sum") refl), tt),
  record { count = count; steps = steps; added = refl },
)

adds_requests : (s : Task) (requests : List Request) → AreNames s.names →
    All (IsRequestOf (length s.names) (length s.problem.constraints)) requests →
    HaveSteps s (sums_in requests) →
    AddsAll s (map (request_told s.names) requests) (with_requests s requests)
adds_requests s [] are all steps =
    let count : s.sums ≡ s.sums + 0 = omega arith in
    λ i. record s { requests = sym (append-nil s.requests) i; sums = count i }
adds_requests s (r ∷ requests) are all steps =
    let Is = IsRequestOf (length s.names) (length s.problem.constraints) in
    let both = sums_of_both r requests in
    let count : (s.sums + sums_in (r ∷ [])) + sums_in requests ≡ s.sums + sums_in (r ∷ requests) =
    omega (arith, both) in
    let first = fewer_have_steps s (sums_in (r ∷ [])) (sums_in (r ∷ requests))
    (omega (arith, both)) steps in
    let one = adds_request s r are (All-head Is r requests all) first in
    let next = with_requests s (r ∷ []) in
    let more = adds_requests next requests are (All-tail Is r requests all)
    (subst (λ (n : ℕ). n * steps_of_sum s ≤ most_steps) (sym count) steps) in
    let same : with_requests next requests ≡ with_requests s (r ∷ requests) =
    λ i. record s { requests = append_assoc s.requests (r ∷ []) requests i; sums = count i } in (
      next,
      one.0,
      one.1,
      subst (AddsAll next (map (request_told s.names) requests)) same more,
    )

-- ---- a task

pub task_is_told : (names : List (List ℕ)) (s : Task) → IsPrintable names s →
    AddsAll no_task (task_told names s) s
task_is_told names s h =
    let columned = with_columns no_task s.names s.problem.columns in
    let constrained = with_constraints columned s.problem.constraints in
    let relaxed = record constrained { round = s.round } in
    let gridded = record relaxed { grid = s.grid } in
    let columns = adds_columns no_task s.names s.problem.columns h.column_names h.columns
    h.columns_few refl in
    let constraints = adds_constraints columned names s.problem.constraints h.column_names refl
    h.are_names h.constraints (omega (arith, h.constraints, h.constraints_few)) h.known
    (omega (arith, h.entries, h.entries_few)) in
    let round = adds_round constrained s.round refl h.round in
    let grid = adds_grid relaxed s.grid refl h.grid in
    let count : 0 + length (all_entries s.problem) ≡ s.entries = omega (arith, h.entries) in
    let sums : 0 + sums_in s.requests ≡ s.sums = omega (arith, h.sums) in
    let steps : HaveSteps gridded (sums_in s.requests) =
    subst₂ (λ (n entries : ℕ).
    n * (length s.names + length s.problem.constraints + entries) ≤ most_steps)
    (sym sums) (sym count) h.steps in
    let requests = adds_requests gridded s.requests h.column_names
    (subst (λ (m : ℕ). All (IsRequestOf (length s.names) m) s.requests) h.constraints h.requests)
    steps in
    let same : with_requests gridded s.requests ≡ s =
    λ i. record s { entries = count i; sums = sums i } in
    let told = each_told (λ name c. column_told name c ∷ []) s.names s.problem.columns in
    let behind = each_told (constraint_told s.names) names s.problem.constraints in
    let problem = adds_behind no_task columned constrained told behind columns constraints in
    let lines = problem_told s.names names s.problem in
    adds_behind no_task gridded s (lines ++ round_told s.round ++ grid_told s.grid)
    (map (request_told s.names) s.requests)
    (adds_behind no_task relaxed gridded (lines ++ round_told s.round) (grid_told s.grid)
    (adds_behind no_task constrained relaxed lines (round_told s.round) problem round) grid)
    (subst (AddsAll gridded (map (request_told s.names) s.requests)) same requests)
