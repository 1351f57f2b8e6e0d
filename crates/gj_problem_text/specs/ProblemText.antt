-- The text of a problem, in lenient spelling (own).
use Rattle.std.specs.Prelude.{ℕ, ◌≡◌, ◌⊎◌, None, List, [], ◌∷◌, codes}
use Rattle.std.proofs.Common.{inl, inr}
use Rattle.gj_forms.specs.Parts.{Part, words_rule, line_part, then_part, made_part, where_part, loop_part, end_part, BeginsWithWord, IsFirstFaultIn}
use Rattle.gj_lex.specs.declared.reason.Reason.{Reason}
use Rattle.gj_lex.specs.declared.spelling.Spelling.TheVariants.{Lenient}
use Rattle.gj_function_text.specs.BreaksText.{end_words}
use Rattle.gj_problem_text.specs.Tasks.{task_rule}
use Rattle.gj_problem_text.specs.declared.task.Task.{Task}

-- the words of the first two lines
abbrev pub title_words : List (List ℕ)
title_words = codes "gj-problem" ∷ codes "1" ∷ []

abbrev pub rule_words : List (List ℕ)
rule_words = codes "rule" ∷ codes "gmic" ∷ []

abbrev pub no_task : Task
no_task = record {
  names = [];
  problem = record { columns = []; constraints = [] };
  entries =
      0;
  requests = [];
  sums = 0;
  grid = None;
  round = None;
}

-- the next line: `end`, if it begins so, or one more
abbrev pub next_line : Task → Part (Task ⊎ Task)
next_line s =
    where_part (BeginsWithWord Lenient (codes "end"))
    (made_part (λ u next. next ≡ inr s) (line_part Lenient (words_rule end_words)))
    (made_part (λ t next. next ≡ inl t) (line_part Lenient (task_rule s)))

abbrev pub lines_part : Part Task
lines_part = loop_part next_line no_task

-- a problem text: the lines `gj-problem 1` and `rule gmic`, lines of the problem, the line `end`,
-- and nothing behind it
abbrev pub problem_text : Part Task
problem_text =
    then_part (line_part Lenient (words_rule title_words))
    (λ t. then_part (line_part Lenient (words_rule rule_words))
    (λ u. then_part lines_part (λ task. end_part Lenient task)))

-- the text is a problem text of the task, and only lines that are skipped follow
abbrev pub IsProblemText : List ℕ → Task → Type 0
IsProblemText text task = (rest : List ℕ) × problem_text.Reads text task rest

-- the n-th line of the text is the first at fault, for this reason
abbrev pub IsFirstFault : List ℕ → ℕ → Reason → Type 0
IsFirstFault text n e = IsFirstFaultIn problem_text text n e
