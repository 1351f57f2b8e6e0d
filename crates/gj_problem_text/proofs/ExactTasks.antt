-- A line makes one task of a task, or is refused for one reason.
use Rattle.std.proofs.Common.{◌≡◌, ◌⊎◌, inl, inr, Option, Some, None, ℕ, ◌+◌, Bool, List, [], ◌∷◌, ◌++◌, refl, sym, ap, ap₂, subst, ◌∙◌}
use Rattle.std.proofs.lemmas.List.{same_from_push}
use Rattle.gj_frac.specs.declared.Frac.{Frac}
use Rattle.gj_forms.specs.Parts.{IsExactRule}
use Rattle.gj_lex.specs.declared.reason.Reason.{Reason}
use Rattle.gj_forms.proofs.SpelledLaws.{made_rule_is_exact}
use Rattle.gj_problem.specs.declared.problem.Constraint.{Constraint}
use Rattle.gj_problem.specs.declared.problem.Entry.{Entry}
use Rattle.gj_problem_text.specs.ProblemLines.{ProblemLine, column, constraint, entry, upper, sum, grid, round, told_rule}
use Rattle.gj_problem_text.specs.Tasks.{Unless, Never, index_of, IsKnown, SpellsBound, IsBound, AddsColumn, AreLonger, AddsEntry, AddsUpper, Adds, Refuses, task_rule}
use Rattle.gj_problem_text.specs.declared.task.Request.TheVariants.{Upper}
use Rattle.gj_problem_text.specs.declared.task.Task.{Task}
use Rattle.gj_problem_text.proofs.ClearLines.{told_rule_is_exact}
use Rattle.gj_problem_text.proofs.OneNumber.{one_number_word}

-- ---- demands in their order

abbrev pub IsOnce : (Reason → Type 0) → Type 0
IsOnce Q = (e d : Reason) → Q e → Q d → e ≡ d

pub never : IsOnce Never
never e d h k = absurd h

-- a demand is not met, or the next ones have one reason
pub unless : (So : Type 0) (because : Reason) (Next : Reason → Type 0) → IsOnce Next →
    IsOnce (Unless So because Next)
unless So because Next once e d (inl h) (inl k) = h.1 ∙ sym k.1
unless So because Next once e d (inl h) (inr k) = absurd (h.0 k.0)
unless So because Next once e d (inr h) (inl k) = absurd (k.0 h.0)
unless So because Next once e d (inr h) (inr k) = once e d h.1 k.1

-- the demand is met, and the next ones are
pub met : (So Because Next : Type 0) → So → (Next → ⊥) → ((So → ⊥) × Because) ⊎ (So × Next) → ⊥
met So Because Next so next (inl h) = h.0 so
met So Because Next so next (inr h) = next h.1

-- ---- one task

pub one_bound : (word : List ℕ) (a b : Option Frac) → SpellsBound word a → SpellsBound word b →
    a ≡ b
one_bound word None None h k = refl
one_bound word None (Some y) h k = absurd (k.0 h)
one_bound word (Some x) None h k = absurd (h.0 k)
one_bound word (Some x) (Some y) h k = ap Some (one_number_word word x y h.1 k.1)

pub one_some : (i j : ℕ) → Some i ≡ Some j → i ≡ j
one_some i j e = cc

pub one_index : (i j : ℕ) (at : Option ℕ) → at ≡ Some i → at ≡ Some j → i ≡ j
one_index i j at h k = one_some i j (sym h ∙ k)

abbrev with_column : Task → List ℕ → Bool → Option Frac → Option Frac → Task
with_column s name is_whole first last = record s {
  names = s.names ++ name ∷ [];
  problem = record (s.problem) {
    columns = s.problem.columns ++ record { is_whole = is_whole; lower = first; upper = last } ∷ [];
  };
}

one_column : (s : Task) (name : List ℕ) (is_whole : Bool) (low high : List ℕ) (t u : Task) →
    AddsColumn s name is_whole low high t →
    AddsColumn s name is_whole low high u → t ≡ u
one_column s name is_whole low high t u h k =
    h.added ∙ ap₂ (with_column s name is_whole)
    (one_bound low h.lower k.lower h.lower_is k.lower_is)
    (one_bound high h.upper k.upper h.upper_is k.upper_is) ∙ sym k.added

abbrev ended : Entry → List Constraint → Constraint → List Constraint
ended e others last = others ++ record last { entries = last.entries ++ e ∷ [] } ∷ []

one_longer : (old : List Constraint) (e : Entry) (new other : List Constraint) →
    AreLonger old e new → AreLonger old e other → new ≡ other
one_longer old e new other h k =
    let same = same_from_push h.others k.others h.last k.last (sym h.old_is ∙ k.old_is) in
    h.new_is ∙ ap₂ (ended e) same.0 same.1 ∙ sym k.new_is

abbrev with_constraints : Task → List Constraint → Task
with_constraints s constraints = record s {
  problem = record (s.problem) { constraints = constraints };
  entries = s.entries + 1;
}

one_entry : (s : Task) (name : List ℕ) (value : Frac) (t u : Task) → AddsEntry s name value t →
    AddsEntry s name value u → t ≡ u
one_entry s name value t u h k =
    let index = one_index h.index k.index (index_of s name) h.index_is k.index_is in
    let longer = subst (λ (i : ℕ). AreLonger s.problem.constraints
    (record { column = i; value = value }) h.constraints) index h.longer in
    h.added ∙ ap (with_constraints s)
    (one_longer s.problem.constraints (record { column = k.index; value = value }) h.constraints
    k.constraints longer k.longer)
    ∙ sym k.added

abbrev with_upper : Task → ℕ → Task
with_upper s j = record s { requests = s.requests ++ Upper j ∷ [] }

one_upper : (s : Task) (name : List ℕ) (t u : Task) → AddsUpper s name t → AddsUpper s name u →
    t ≡ u
one_upper s name t u h k =
    h.added ∙ ap (with_upper s) (one_index h.index k.index (index_of s name) h.index_is k.index_is)
    ∙ sym k.added

pub one_task : (s : Task) (line : ProblemLine) (t u : Task) → Adds s line t → Adds s line u → t ≡ u
one_task s (column name is_whole low high) t u h k = one_column s name is_whole low high t u h k
one_task s (constraint name sense right) t u h k = h.added ∙ sym k.added
one_task s (entry name value) t u h k = one_entry s name value t u h k
one_task s (upper name) t u h k = one_upper s name t u h k
one_task s (sum multipliers) t u h k = h.added ∙ sym k.added
one_task s (grid n) t u h k = h.added ∙ sym k.added
one_task s (round n) t u h k = h.added ∙ sym k.added

-- ---- one reason

pub one_reason : (s : Task) (line : ProblemLine) (e d : Reason) → Refuses s line e →
    Refuses s line d → e ≡ d
one_reason s (column name is_whole low high) e d =
    unless _ _ _ (unless _ _ _ (unless _ _ _ (unless _ _ _ (unless _ _ _ (unless _ _ Never never)))))
    e d
one_reason s (constraint name sense right) e d =
    unless _ _ _ (unless _ _ _ (unless _ _ Never never)) e d
one_reason s (entry name value) e d = unless _ _ _ (unless _ _ _ (unless _ _ Never never)) e d
one_reason s (upper name) e d = unless _ _ Never never e d
one_reason s (sum multipliers) e d = unless _ _ _ (unless _ _ Never never) e d
one_reason s (grid n) e d = unless _ _ Never never e d
one_reason s (round n) e d = unless _ _ Never never e d

-- ---- not both

pub not_both : (s : Task) (line : ProblemLine) (t : Task) (e : Reason) → Adds s line t →
    Refuses s line e → ⊥
not_both s (column name is_whole low high) t e h r =
    met _ _ _ h.is_name
    (met (IsBound low) _ _ (h.lower, h.lower_is)
    (met (IsBound high) _ _ (h.upper, h.upper_is) (met _ _ _ h.few (met _ _ _ h.steps (met _ _ _ h.new (λ k. k))))))
    r
not_both s (constraint name sense right) t e h r =
    met _ _ _ h.before (met _ _ _ h.is_name (met _ _ _ h.few (λ k. k))) r
not_both s (entry name value) t e h r =
    met _ _ _ h.takes (met _ _ _ h.few (met (IsKnown s name) _ _ (h.index, h.index_is) (λ k. k))) r
not_both s (upper name) t e h r = met (IsKnown s name) _ _ (h.index, h.index_is) (λ k. k) r
not_both s (sum multipliers) t e h r = met _ _ _ h.count (met _ _ _ h.steps (λ k. k)) r
not_both s (grid n) t e h r = met _ _ _ h.none (λ k. k) r
not_both s (round n) t e h r = met _ _ _ h.none (λ k. k) r

pub task_rule_is_exact : (s : Task) → IsExactRule (task_rule s).Spells (task_rule s).Breaks
task_rule_is_exact s =
    made_rule_is_exact (Adds s) (Refuses s) told_rule told_rule_is_exact (one_task s) (one_reason s)
    (not_both s)
