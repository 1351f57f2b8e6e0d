-- The text of the cuts (own).
use Rattle.std.specs.Prelude.{ℕ, ◌≡◌, ◌<◌, List, [], ◌∷◌, ◌++◌, All, codes, flat_map, length, slice_index_or}
use Rattle.gj_frac.specs.declared.Frac.{Frac}
use Rattle.gj_lex.specs.Name.{IsName}
use Rattle.gj_forms.specs.LineForms.{LineForm, form_of, line_of}
use Rattle.gj_forms.specs.LineForms.Field.{word, fraction}
use Rattle.gj_function_lines.specs.FunctionLines.{line}
use Rattle.gj_problem.specs.declared.problem.Entry.{Entry}
use Rattle.gj_safe_cut.specs.SafeCuts.{SafeCutHolds}
use Rattle.gj_safe_cut.specs.declared.cut.SafeCut.{SafeCut}
use Rattle.gj_safe_cut.specs.declared.cut.SafeCut.TheVariants.{Cut, Integral, OtherFraction, Free, Wide}
use Rattle.gj_proof.specs.ProofText.{AreSubjectLines, subject_of_rule}
use Rattle.gj_proof.specs.declared.cut.CutRule.{CutRule}
use Rattle.gj_problem_text.specs.Cuts.{AreAnswers, none_turned}
use Rattle.gj_problem_text.specs.declared.task.Task.{Task}

-- `cut RIGHT`
abbrev pub cut_form : LineForm Frac
cut_form = form_of (λ right. word (codes "cut") ∷ fraction right ∷ [])

-- `term NAME VALUE`
abbrev pub cut_term_form : LineForm (List ℕ × Frac)
cut_term_form = form_of (λ term. word (codes "term") ∷ word term.0 ∷ fraction term.1 ∷ [])

-- `skip free NAME`
abbrev pub free_form : LineForm (List ℕ)
free_form = form_of (λ name. word (codes "skip") ∷ word (codes "free") ∷ word name ∷ [])

-- the name of the column at an index
abbrev pub name_at : List (List ℕ) → ℕ → List ℕ
name_at names j = slice_index_or names j []

abbrev pub cut_term_line : List (List ℕ) → Entry → List ℕ
cut_term_line names e = line_of cut_term_form (name_at names e.column, e.value)

-- a cut with a line for each term, or why there is none
abbrev pub cut_lines : List (List ℕ) → SafeCut → List ℕ
cut_lines names (Cut q) = line_of cut_form q.right ++ flat_map (cut_term_line names) q.entries
cut_lines names Integral = line (codes "skip integral")
cut_lines names OtherFraction = line (codes "skip other")
cut_lines names (Free j) = line_of free_form (name_at names j)
cut_lines names Wide = line (codes "skip wide")

-- each is a name, and no two are the same
pub record AreNames (names : List (List ℕ)) : Type 0 where
  pub are : All IsName names
  pub different : (i j : ℕ) → i < length names → j < length names →
      name_at names i ≡ name_at names j → i ≡ j

-- the columns that the cut names are below the n-th
abbrev pub HasColumnsBelow : ℕ → SafeCut → Type 0
HasColumnsBelow n (Cut q) = All (λ e. e.column < n) q.entries
HasColumnsBelow n Integral = Unit {0}
HasColumnsBelow n OtherFraction = Unit {0}
HasColumnsBelow n (Free j) = j < n
HasColumnsBelow n Wide = Unit {0}

-- the text has the lines of the rule and those of the cuts that the task asks for, and each cut
-- holds at all feasible points of the task's problem
pub record IsCutsTextBy (r : CutRule) (s : Task) (text : List ℕ) : Type 0 where
  pub cuts : List SafeCut
  pub are_cuts : AreAnswers r s (none_turned s) s.requests cuts
  pub hold : All (SafeCutHolds s.problem) cuts
  pub rule_lines : List ℕ
  pub rule_lines_are : AreSubjectLines (subject_of_rule r) rule_lines
  pub text_is : text ≡ line (codes "gj-safe 1") ++ rule_lines ++ flat_map (cut_lines s.names) cuts
      ++ line (codes "end")
