-- The text of a derivation, in lenient spelling: a problem, and steps (own).
use Rattle.std.specs.Prelude.{ℕ, ◌≡◌, ◌⊎◌, ◌<◌, IsTrue, Bool, true, false, Option, Some, None, List, [], ◌∷◌, ◌++◌, codes, length}
use Rattle.std.proofs.Common.{inl, inr}
use Rattle.gj_lex.specs.declared.reason.Reason.{Reason}
use Rattle.gj_lex.specs.declared.reason.Reason.TheVariants as reason
use Rattle.gj_lex.specs.declared.spelling.Spelling.{Spelling}
use Rattle.gj_lex.specs.declared.spelling.Spelling.TheVariants.{Lenient}
use Rattle.gj_forms.specs.LineForms.{first_of}
use Rattle.gj_forms.specs.Parts.{LineRule, Part, words_rule, line_part, empty_part, then_part, made_part, where_part, loop_part, end_part, BeginsWithWord}
use Rattle.gj_forms.specs.SpelledForms.{rule_in, made_rule, barred_rule}
use Rattle.gj_forms.specs.TextLines.{HasLine}
use Rattle.gj_function_text.specs.BreaksText.{end_words}
use Rattle.gj_derivation.specs.declared.draft.Draft.{Draft}
use Rattle.gj_derivation.specs.declared.step.StepRule.{StepRule}
use Rattle.gj_derivation.specs.declared.step.StepRule.TheVariants.{Function}
use Rattle.gj_problem_text.specs.ProblemLines.{ProblemLine, column, constraint, entry, upper, sum, grid, round, told_rule}
use Rattle.gj_problem_text.specs.ProblemText.{no_task}
use Rattle.gj_problem_text.specs.Tasks as problem
use Rattle.gj_problem_text.specs.Tasks.{Unless, Never}
use Rattle.gj_problem_text.specs.declared.task.Task.{Task}
use Rattle.gj_derivation_text.specs.StepLines.{step_form}
use Rattle.gj_derivation_text.specs.OpenSteps.{index_in, begun, StepsGoOn, lines_of_step}
use Rattle.gj_derivation_text.specs.declared.drafts.Drafts.{Drafts}
use Rattle.gj_derivation_text.specs.declared.names.Names.{Names}

-- the words of the title
abbrev pub title_words : List (List ℕ)
title_words = codes "gj-derivation" ∷ codes "1" ∷ []

-- nothing is told yet
abbrev pub no_drafts : Drafts
no_drafts = record { task = no_task; lines = []; steps = []; left = [] }

-- ---- the problem

-- the name that the line gives to a constraint
abbrev pub new_name : ProblemLine → Option (List ℕ)
new_name (constraint name sense right) = Some name
new_name (column name is_whole low high) = None
new_name (entry name value) = None
new_name (upper name) = None
new_name (sum multipliers) = None
new_name (grid n) = None
new_name (round n) = None

-- the names of lines with this one, if there is one: no line has it yet
abbrev pub AddsName : List (List ℕ) → Option (List ℕ) → List (List ℕ) → Type 0
AddsName lines None new = new ≡ lines
AddsName lines (Some name) new = (index_in lines name ≡ None) × (new ≡ lines ++ name ∷ [])

-- there is one, and another line has it
abbrev pub IsTaken : List (List ℕ) → Option (List ℕ) → Type 0
IsTaken lines None = ⊥
IsTaken lines (Some name) = (index_in lines name ≡ None) → ⊥

-- the line makes of s the drafts t
abbrev pub AddsLine : Drafts → ProblemLine → Drafts → Type 0
AddsLine s line t = (task : Task) × problem.Adds s.task line task × (lines : List (List ℕ))
    × AddsName s.lines (new_name line) lines
    × (t ≡ record s { task = task; lines = lines })

-- or is refused: as a line of a problem, or for its name
abbrev pub RefusesLine : Drafts → ProblemLine → Reason → Type 0
RefusesLine s line e = problem.Refuses s.task line e
    ⊎ ((task : Task) × problem.Adds s.task line task × IsTaken s.lines (new_name line)
    × (e ≡ reason.Place))

-- no rows are asked for, nor data on a grid, and a grid for drafts alone
abbrev pub AreBarred : Bool → List (List ℕ) → Type 0
AreBarred drafts words = (first_of words ≡ codes "upper") ⊎ (first_of words ≡ codes "sum")
    ⊎ (first_of words ≡ codes "round") ⊎ ((drafts ≡ false) × (first_of words ≡ codes "grid"))

abbrev pub problem_rule : Bool → Drafts → LineRule Drafts
problem_rule drafts s =
    barred_rule (AreBarred drafts) (made_rule (AddsLine s) (RefusesLine s) told_rule)

-- lines of the problem, up to the first step or the end
abbrev pub next_of_problem : Bool → Drafts → Part (Drafts ⊎ Drafts)
next_of_problem drafts s =
    where_part StepsGoOn (empty_part (inr s))
    (made_part (λ t next. next ≡ inl t) (line_part Lenient (problem_rule drafts s)))

abbrev pub problem_part : Bool → Part Drafts
problem_part drafts = loop_part (next_of_problem drafts) no_drafts

-- ---- the steps

abbrev pub most_steps : ℕ
most_steps = 10000

-- what the first line of a step tells: its name and its rule
abbrev pub Head : Type 0
Head = List ℕ × (StepRule × Unit {0})

-- a step by a function needs one in front; steps are few, and each has a name of its own
abbrev pub Begins : Bool → Drafts → Head → Head → Type 0
Begins has_function s head same =
    (head.1.0 ≡ Function → IsTrue has_function) × (length s.steps < most_steps)
    × (index_in s.lines head.0 ≡ None) × (same ≡ head)

abbrev pub RefusesHead : Bool → Drafts → Head → Reason → Type 0
RefusesHead has_function s head =
    Unless (head.1.0 ≡ Function → IsTrue has_function) reason.Form
    (Unless (length s.steps < most_steps) reason.Large
    (Unless (index_in s.lines head.0 ≡ None) reason.Place Never))

abbrev pub head_rule : Bool → Drafts → LineRule Head
head_rule has_function s = made_rule (Begins has_function s) (RefusesHead has_function s)
    (rule_in Lenient step_form)

-- one line, and how many bytes of the text are left from it on
abbrev pub placed_line : {A : Type 0} → Spelling → LineRule A → Part (A × ℕ)
placed_line s rule = record {
  Reads = λ text p rest. (start : List ℕ) × (words : List (List ℕ))
      × HasLine s text start words rest × rule.Spells words p.0
      × (p.1 ≡ length start);
  Faults = (line_part s rule).Faults;
}

-- what a step can name
abbrev pub names_of : Bool → Drafts → Names
names_of drafts s = record { columns = s.task.names; lines = s.lines; drafts = drafts }

abbrev pub with_step : Drafts → List ℕ → ℕ → Draft → Drafts
with_step s name left draft =
    record s {
      lines = s.lines ++ name ∷ [];
      steps = s.steps ++ draft ∷ [];
      left =
          s.left ++ left ∷ [];
    }

-- a step: its first line, and those behind it
abbrev pub step_part : Bool → Bool → Drafts → Part Drafts
step_part drafts has_function s =
    then_part (placed_line Lenient (head_rule has_function s))
    (λ p. made_part (λ draft t. t ≡ with_step s p.0.0 p.1 draft)
    (lines_of_step (names_of drafts s) (begun p.0.1.0)))

-- the next step, or the line `end`
abbrev pub next_step : Bool → Bool → Drafts → Part (Drafts ⊎ Drafts)
next_step drafts has_function s =
    where_part (BeginsWithWord Lenient (codes "end"))
    (made_part (λ u next. next ≡ inr s) (line_part Lenient (words_rule end_words)))
    (made_part (λ t next. next ≡ inl t) (step_part drafts has_function s))

-- ---- the whole

-- the line `gj-derivation 1`, lines of the problem, steps, the line `end`, and nothing behind it
abbrev pub derivation_part : Bool → Bool → Part Drafts
derivation_part drafts has_function =
    then_part (line_part Lenient (words_rule title_words)) (λ t. then_part (problem_part drafts)
    (λ s. then_part (loop_part (next_step drafts has_function) s) (λ all. end_part Lenient all)))
