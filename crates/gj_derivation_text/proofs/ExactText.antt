-- The text of a derivation tells one thing, and has no fault then; else it has one first fault.
use Rattle.std.proofs.Common.{◌≡◌, ◌⊎◌, inl, inr, Option, Some, None, ℕ, List, [], ◌∷◌, ◌++◌, Bool, true, false, length, codes, refl, sym, ap, ap₂, subst, ◌∙◌}
use Rattle.gj_lex.specs.declared.reason.Reason.{Reason}
use Rattle.gj_lex.specs.declared.reason.Reason.TheVariants.{Place}
use Rattle.gj_lex.specs.declared.spelling.Spelling.{Spelling}
use Rattle.gj_lex.specs.declared.spelling.Spelling.TheVariants.{Lenient}
use Rattle.gj_forms.specs.TextLines.{HasLine}
use Rattle.gj_forms.specs.Parts.{LineRule, Part, words_rule, line_part, empty_part, then_part, made_part, loop_part, end_part, BeginsWithWord, IsExactRule, IsExactPart}
use Rattle.gj_forms.specs.SpelledForms.{rule_in, made_rule}
use Rattle.gj_forms.proofs.LoopLaws.{loop_part_is_exact}
use Rattle.gj_forms.proofs.PartLaws.{one_line, words_rule_is_exact, line_part_is_exact, empty_part_is_exact, then_part_is_exact, made_part_is_exact, end_part_is_exact}
use Rattle.gj_forms.proofs.SpelledLaws.{rule_in_is_exact, made_rule_is_exact}
use Rattle.gj_forms.proofs.SpelledLines.{barred_rule_is_exact}
use Rattle.gj_forms.proofs.WhereLaws.{where_part_is_exact}
use Rattle.gj_line.specs.FieldForms.{name_word, no_form, then_form}
use Rattle.gj_line.specs.FieldLaws.{no_form_is_clear, then_is_clear, name_is_clear}
use Rattle.gj_line.proofs.NamedLines.{line_is_clear}
use Rattle.gj_function_text.specs.BreaksText.{end_words}
use Rattle.gj_derivation.specs.declared.draft.Draft.{Draft}
use Rattle.gj_problem_text.specs.ProblemLines.{ProblemLine, told_rule}
use Rattle.gj_problem_text.specs.Tasks as problem
use Rattle.gj_problem_text.specs.Tasks.{Never}
use Rattle.gj_problem_text.specs.declared.task.Task.{Task}
use Rattle.gj_problem_text.proofs.ClearLines.{told_rule_is_exact}
use Rattle.gj_problem_text.proofs.ExactTasks as tasks
use Rattle.gj_problem_text.proofs.ExactTasks.{never, unless, met}
use Rattle.gj_derivation_text.specs.StepLines.{rule_kind, step_form}
use Rattle.gj_derivation_text.specs.RuleWords.{rule_is_clear}
use Rattle.gj_derivation_text.specs.OpenSteps.{begun, StepsGoOn, lines_of_step}
use Rattle.gj_derivation_text.specs.DerivationText.{title_words, new_name, AddsName, IsTaken, AddsLine, RefusesLine, AreBarred, problem_rule, next_of_problem, problem_part, Head, Begins, RefusesHead, head_rule, placed_line, names_of, with_step, step_part, next_step, derivation_part}
use Rattle.gj_derivation_text.specs.declared.drafts.Drafts.{Drafts}
use Rattle.gj_derivation_text.proofs.ExactSteps.{lines_of_step_is_exact}

-- ---- the problem

one_list : (lines : List (List ℕ)) (name : Option (List ℕ)) (new other : List (List ℕ)) →
    AddsName lines name new → AddsName lines name other →
    new ≡ other
one_list lines None new other h k = h ∙ sym k
one_list lines (Some name) new other h k = h.1 ∙ sym k.1

one_line_added : (s : Drafts) (line : ProblemLine) (t u : Drafts) → AddsLine s line t →
    AddsLine s line u → t ≡ u
one_line_added s line t u (task, adds, lines, names, is) (task', adds', lines', names', is') =
    is ∙ ap₂ (λ (v : Task) (ns : List (List ℕ)). record s { task = v; lines = ns })
    (tasks.one_task s.task line task task' adds adds')
    (one_list s.lines (new_name line) lines lines' names names') ∙ sym is'

one_reason_of_line : (s : Drafts) (line : ProblemLine) (e d : Reason) → RefusesLine s line e →
    RefusesLine s line d → e ≡ d
one_reason_of_line s line e d (inl h) (inl k) = tasks.one_reason s.task line e d h k
one_reason_of_line s line e d (inl h) (inr (task, adds, taken, is)) =
    absurd (tasks.not_both s.task line task e adds h)
one_reason_of_line s line e d (inr (task, adds, taken, is)) (inl k) =
    absurd (tasks.not_both s.task line task d adds k)
one_reason_of_line s line e d (inr (task, adds, taken, is)) (inr (task', adds', taken', is')) = is
    ∙ sym is'

not_taken : (lines : List (List ℕ)) (name : Option (List ℕ)) (new : List (List ℕ)) →
    AddsName lines name new → IsTaken lines name → ⊥
not_taken lines None new h taken = taken
not_taken lines (Some name) new h taken = taken h.0

not_both_lines : (s : Drafts) (line : ProblemLine) (t : Drafts) (e : Reason) → AddsLine s line t →
    RefusesLine s line e → ⊥
not_both_lines s line t e (task, adds, lines, names, is) (inl h) =
    tasks.not_both s.task line task e adds h
not_both_lines s line t e (task, adds, lines, names, is) (inr (task', adds', taken, place)) =
    not_taken s.lines (new_name line) lines names taken

problem_rule_is_exact : (drafts : Bool) (s : Drafts) →
    IsExactRule (problem_rule drafts s).Spells (problem_rule drafts s).Breaks
problem_rule_is_exact drafts s =
    barred_rule_is_exact (AreBarred drafts) (made_rule (AddsLine s) (RefusesLine s) told_rule)
    (made_rule_is_exact (AddsLine s) (RefusesLine s) told_rule told_rule_is_exact (one_line_added s)
    (one_reason_of_line s) (not_both_lines s))

abbrev pub More : Drafts → Drafts ⊎ Drafts → Type 0
More t next = next ≡ inl t

abbrev pub one_more : Bool → Drafts → Part (Drafts ⊎ Drafts)
one_more drafts s = made_part More (line_part Lenient (problem_rule drafts s))

next_of_problem_is_exact : (drafts : Bool) (s : Drafts) →
    IsExactPart (next_of_problem drafts s).Reads (next_of_problem drafts s).Faults
next_of_problem_is_exact drafts s =
    where_part_is_exact StepsGoOn (empty_part (inr s)) (one_more drafts s)
    (empty_part_is_exact (inr s))
    (made_part_is_exact More (λ t m n h k. h ∙ sym k) (line_part Lenient (problem_rule drafts s))
    (line_part_is_exact Lenient (problem_rule drafts s) (problem_rule_is_exact drafts s)))

-- ---- a step

module _ {A : Type 0} (sp : Spelling) (rule : LineRule A)
    (exact : IsExactRule rule.Spells rule.Breaks) where
  -- it is the line, and where it begins
  line_of_placed : (text : List ℕ) (p : A × ℕ) (rest : List ℕ) →
      (placed_line sp rule).Reads text p rest → (line_part sp rule).Reads text p.0 rest
  line_of_placed text p rest (start, words, line, spells, left) = (start, words, line, spells)

  placed_thing : (text : List ℕ) (p q : A × ℕ) (r t : List ℕ) →
      (placed_line sp rule).Reads text p r → (placed_line sp rule).Reads text q t →
      (p ≡ q) × (r ≡ t)
  placed_thing text p q r t (s, ws, line, is, left) (s', vs, line', is', left') =
      let whole = line_part_is_exact sp rule exact in
      let same = whole.one_thing text p.0 q.0 r t (s, ws, line, is) (s', vs, line', is') in
      let at = one_line sp text s s' ws vs r t line line' in
      let size : p.1 ≡ q.1 = left ∙ ap length at.0 ∙ sym left' in
      (λ i. (same.0 i, size i), same.1)

  pub placed_line_is_exact : IsExactPart (placed_line sp rule).Reads (placed_line sp rule).Faults
  placed_line_is_exact =
      let whole = line_part_is_exact sp rule exact in record {
        one_thing = placed_thing;
        one_fault = whole.one_fault;
        not_both = λ text p r t e h k. whole.not_both text p.0 r t e (line_of_placed text p r h) k;
        rest_ends = λ text p r h. whole.rest_ends text p.0 r (line_of_placed text p r h);
        fault_ends = whole.fault_ends;
      }

one_head : (has_function : Bool) (s : Drafts) (h k l : Head) → Begins has_function s h k →
    Begins has_function s h l → k ≡ l
one_head has_function s h k l b c = b.3 ∙ sym c.3

one_reason_of_head : (has_function : Bool) (s : Drafts) (h : Head) (e d : Reason) →
    RefusesHead has_function s h e → RefusesHead has_function s h d → e ≡ d
one_reason_of_head has_function s h e d = unless _ _ _ (unless _ _ _ (unless _ _ Never never)) e d

not_both_heads : (has_function : Bool) (s : Drafts) (h k : Head) (e : Reason) →
    Begins has_function s h k → RefusesHead has_function s h e → ⊥
not_both_heads has_function s h k e b r = met _ _ _ b.0 (met _ _ _ b.1 (met _ _ _ b.2 (λ n. n))) r

step_form_is_exact : IsExactRule (rule_in Lenient step_form).Spells
    (rule_in Lenient step_form).Breaks
step_form_is_exact =
    rule_in_is_exact Lenient step_form
    (line_is_clear (codes "step") (then_form name_word (then_form rule_kind no_form))
    (then_is_clear name_word (then_form rule_kind no_form) name_is_clear
    (then_is_clear rule_kind no_form rule_is_clear no_form_is_clear)))

head_rule_is_exact : (has_function : Bool) (s : Drafts) →
    IsExactRule (head_rule has_function s).Spells (head_rule has_function s).Breaks
head_rule_is_exact has_function s =
    made_rule_is_exact (Begins has_function s) (RefusesHead has_function s)
    (rule_in Lenient step_form) step_form_is_exact (one_head has_function s)
    (one_reason_of_head has_function s) (not_both_heads has_function s)

-- the first line of a step, and the lines behind it
abbrev pub head_line : Bool → Drafts → Part (Head × ℕ)
head_line has_function s = placed_line Lenient (head_rule has_function s)

abbrev pub Makes : Drafts → Head × ℕ → Draft → Drafts → Type 0
Makes s p draft t = t ≡ with_step s p.0.0 p.1 draft

abbrev pub behind_head : Bool → Drafts → Head × ℕ → Part Drafts
behind_head drafts s p = made_part (Makes s p) (lines_of_step (names_of drafts s) (begun p.0.1.0))

step_part_is_exact : (drafts has_function : Bool) (s : Drafts) →
    IsExactPart (step_part drafts has_function s).Reads (step_part drafts has_function s).Faults
step_part_is_exact drafts has_function s =
    then_part_is_exact (head_line has_function s) (behind_head drafts s)
    (placed_line_is_exact Lenient (head_rule has_function s) (head_rule_is_exact has_function s))
    (λ p. made_part_is_exact (Makes s p) (λ d t u h k. h ∙ sym k)
    (lines_of_step (names_of drafts s) (begun p.0.1.0))
    (lines_of_step_is_exact (names_of drafts s) (begun p.0.1.0)))

-- ---- all steps

abbrev pub Done : Drafts → Unit {0} → Drafts ⊎ Drafts → Type 0
Done s u next = next ≡ inr s

abbrev pub end_line : Part (Unit {0})
end_line = line_part Lenient (words_rule end_words)

next_step_is_exact : (drafts has_function : Bool) (s : Drafts) →
    IsExactPart (next_step drafts has_function s).Reads (next_step drafts has_function s).Faults
next_step_is_exact drafts has_function s =
    where_part_is_exact (BeginsWithWord Lenient (codes "end")) (made_part (Done s) end_line)
    (made_part More (step_part drafts has_function s))
    (made_part_is_exact (Done s) (λ u m n h k. h ∙ sym k) end_line
    (line_part_is_exact Lenient (words_rule end_words) (words_rule_is_exact end_words)))
    (made_part_is_exact More (λ t m n h k. h ∙ sym k) (step_part drafts has_function s)
    (step_part_is_exact drafts has_function s))

-- ---- the whole

abbrev pub title_line : Part (Unit {0})
title_line = line_part Lenient (words_rule title_words)

abbrev pub steps_part : Bool → Bool → Drafts → Part Drafts
steps_part drafts has_function s = loop_part (next_step drafts has_function) s

abbrev pub ended : Drafts → Part Drafts
ended all = end_part Lenient all

abbrev pub behind_problem : Bool → Bool → Drafts → Part Drafts
behind_problem drafts has_function s = then_part (steps_part drafts has_function s) ended

abbrev pub behind_title : Bool → Bool → Part Drafts
behind_title drafts has_function =
    then_part (problem_part drafts) (behind_problem drafts has_function)

pub derivation_part_is_exact : (drafts has_function : Bool) →
    IsExactPart (derivation_part drafts has_function).Reads
    (derivation_part drafts has_function).Faults
derivation_part_is_exact drafts has_function =
    then_part_is_exact title_line (λ t. behind_title drafts has_function)
    (line_part_is_exact Lenient (words_rule title_words) (words_rule_is_exact title_words))
    (λ t. then_part_is_exact (problem_part drafts) (behind_problem drafts has_function)
    (loop_part_is_exact (next_of_problem drafts) (next_of_problem_is_exact drafts) _)
    (λ s. then_part_is_exact (steps_part drafts has_function s) ended
    (loop_part_is_exact (next_step drafts has_function) (next_step_is_exact drafts has_function) s)
    (λ all. end_part_is_exact Lenient all)))
