-- A problem text tells one task, and has no fault then; else it has one first fault.
use Rattle.std.proofs.Common.{◌≡◌, ◌⊎◌, inl, inr, ℕ, List, codes, sym, ◌∙◌}
use Rattle.gj_forms.specs.Parts.{words_rule, line_part, end_part, BeginsWithWord, IsExactPart}
use Rattle.gj_lex.specs.declared.reason.Reason.{Reason}
use Rattle.gj_lex.specs.declared.spelling.Spelling.TheVariants.{Lenient}
use Rattle.gj_forms.proofs.PartLaws.{words_rule_is_exact, line_part_is_exact, made_part_is_exact, then_part_is_exact, end_part_is_exact}
use Rattle.gj_forms.proofs.LineNumbers as numbers
use Rattle.gj_forms.proofs.LoopLaws.{loop_part_is_exact}
use Rattle.gj_forms.proofs.WhereLaws.{where_part_is_exact}
use Rattle.gj_function_text.specs.BreaksText.{end_words}
use Rattle.gj_problem_text.specs.ProblemText.{title_words, rule_words, no_task, next_line, lines_part, problem_text, IsProblemText, IsFirstFault}
use Rattle.gj_problem_text.specs.Tasks.{task_rule}
use Rattle.gj_problem_text.specs.declared.task.Task.{Task}
use Rattle.gj_problem_text.proofs.ExactTasks.{task_rule_is_exact}
use Rattle.gj_problem_text.proofs.LinesOfProblem.{end_line, ends, goes_on}
use Rattle.gj_problem_text.proofs.TextParts.{title_line, rule_line, behind_rule, behind_title}

next_line_is_exact : (s : Task) → IsExactPart (next_line s).Reads (next_line s).Faults
next_line_is_exact s =
    where_part_is_exact (BeginsWithWord Lenient (codes "end")) (ends s) (goes_on s)
    (made_part_is_exact (λ (u : Unit {0}) (next : Task ⊎ Task). next ≡ inr s)
    (λ u m n h k. h ∙ sym k) end_line
    (line_part_is_exact Lenient (words_rule end_words) (words_rule_is_exact end_words)))
    (made_part_is_exact (λ (t : Task) (next : Task ⊎ Task). next ≡ inl t) (λ t m n h k. h ∙ sym k)
    (line_part Lenient (task_rule s))
    (line_part_is_exact Lenient (task_rule s) (task_rule_is_exact s)))

pub behind_rule_is_exact : IsExactPart behind_rule.Reads behind_rule.Faults
behind_rule_is_exact =
    then_part_is_exact lines_part (λ task. end_part Lenient task)
    (loop_part_is_exact next_line next_line_is_exact no_task)
    (λ task. end_part_is_exact Lenient task)

behind_title_is_exact : IsExactPart behind_title.Reads behind_title.Faults
behind_title_is_exact =
    then_part_is_exact rule_line (λ u. behind_rule)
    (line_part_is_exact Lenient (words_rule rule_words) (words_rule_is_exact rule_words))
    (λ u. behind_rule_is_exact)

pub problem_text_is_exact : IsExactPart problem_text.Reads problem_text.Faults
problem_text_is_exact =
    then_part_is_exact title_line (λ t. behind_title)
    (line_part_is_exact Lenient (words_rule title_words) (words_rule_is_exact title_words))
    (λ t. behind_title_is_exact)

pub one_task : (text : List ℕ) (s t : Task) → IsProblemText text s → IsProblemText text t → s ≡ t
one_task text s t (a, h) (b, k) = (problem_text_is_exact.one_thing text s t a b h k).0

pub no_fault : (text : List ℕ) (s : Task) (n : ℕ) (e : Reason) → IsProblemText text s →
    IsFirstFault text n e → ⊥
no_fault text s n e (rest, h) fault =
    numbers.no_first_fault problem_text problem_text_is_exact text s rest n e h fault

pub one_fault : (text : List ℕ) (n m : ℕ) (e d : Reason) → IsFirstFault text n e →
    IsFirstFault text m d → (n ≡ m) × (e ≡ d)
one_fault text n m e d h k =
    numbers.one_first_fault problem_text problem_text_is_exact text n m e d h k
