-- A problem text with its rule: the line `rule gmic` in it, or a function text in front of it
-- (own).
use Rattle.std.specs.Prelude.{ℕ, ◌≡◌, List, codes}
use Rattle.gj_forms.specs.Parts.{Part, words_rule, line_part, then_part, made_part, where_part, end_part, BeginsWithWord, IsFirstFaultIn}
use Rattle.gj_lex.specs.declared.reason.Reason.{Reason}
use Rattle.gj_lex.specs.declared.spelling.Spelling.TheVariants.{Lenient}
use Rattle.gj_function_text.specs.FunctionText.{function_text}
use Rattle.gj_proof.specs.declared.cut.CutRule.{CutRule}
use Rattle.gj_proof.specs.declared.cut.CutRule.TheVariants.{Gmic, Table}
use Rattle.gj_problem_text.specs.ProblemText.{title_words, lines_part, problem_text}
use Rattle.gj_problem_text.specs.declared.faults.ProblemFault.{ProblemFault}
use Rattle.gj_problem_text.specs.declared.faults.ProblemFault.TheVariants.{Refused, Memory}
use Rattle.gj_problem_text.specs.declared.input.SafeInput.{SafeInput}
use Rattle.gj_problem_text.specs.declared.task.Task.{Task}

-- behind a function: the line `gj-problem 1`, lines of the problem, the line `end`, and nothing
-- behind it
abbrev pub unruled_text : Part Task
unruled_text = then_part (line_part Lenient (words_rule title_words))
    (λ t. then_part lines_part (λ task. end_part Lenient task))

abbrev pub by_rule : CutRule → Part Task → Part SafeInput
by_rule r = made_part (λ task asked. asked ≡ record { «rule» = r; task = task })

-- a function text, and a problem behind it
abbrev pub function_input : Part SafeInput
function_input = then_part function_text (λ f. by_rule (Table f) unruled_text)

-- a problem text with the line `rule gmic`
abbrev pub gmic_input : Part SafeInput
gmic_input = by_rule Gmic problem_text

-- the first line that is not skipped begins with the word `gj-function`
abbrev pub BeginsAsFunction : List ℕ → Type 0
BeginsAsFunction text = BeginsWithWord Lenient (codes "gj-function") text

-- the one or the other, told apart by the first word
abbrev pub safe_input : Part SafeInput
safe_input = where_part BeginsAsFunction function_input gmic_input

-- the text tells the rule and the task, and only lines that are skipped follow
abbrev pub IsSafeInput : List ℕ → SafeInput → Type 0
IsSafeInput text asked = (rest : List ℕ) × safe_input.Reads text asked rest

-- the n-th line of the text is the first at fault, for this reason
abbrev pub IsFirstFaultOfInput : List ℕ → ℕ → Reason → Type 0
IsFirstFaultOfInput text n e = IsFirstFaultIn safe_input text n e

-- a refusal names the line and the reason of the first fault of the text
abbrev pub NamesFirstFaultOfInput : List ℕ → ProblemFault → Type 0
NamesFirstFaultOfInput text (Refused n e) = IsFirstFaultOfInput text n e
NamesFirstFaultOfInput text (Memory a) = Unit {0}
