-- The parts of a problem text with its rule.
use Rattle.std.proofs.Common.{◌≡◌, inl, inr, ℕ, List, Result, Ok, Err, MatchResult, IfOk, IfErr, refl, sym, subst, ◌∙◌}
use Rattle.gj_forms.specs.TextLines.{HasNothing}
use Rattle.gj_forms.specs.Parts.{Part, words_rule, end_part, IsExactPart, IsFaultOf, IsTail}
use Rattle.gj_forms.specs.declared.fault.PartFault.{PartFault}
use Rattle.gj_lex.specs.declared.reason.Reason.{Reason}
use Rattle.gj_lex.specs.declared.spelling.Spelling.TheVariants.{Lenient}
use Rattle.gj_forms.proofs.LineNumbers as numbers
use Rattle.gj_forms.proofs.PartLaws.{words_rule_is_exact, line_part_is_exact, made_part_is_exact, then_part_is_exact, fault_in_first, fault_in_next, fault_in_made, tail_refused}
use Rattle.gj_forms.proofs.WhereLaws.{where_part_is_exact, fault_where}
use Rattle.gj_shape.specs.FunctionData.{FunctionData}
use Rattle.gj_function_text.specs.FirstFault.{IsFirstFaultOfFunction}
use Rattle.gj_function_text.specs.FunctionText.{function_text, IsFunctionText}
use Rattle.gj_function_text.proofs.OneText.{function_text_is_exact}
use Rattle.gj_proof.specs.declared.cut.CutRule.{CutRule}
use Rattle.gj_proof.specs.declared.cut.CutRule.TheVariants.{Gmic, Table}
use Rattle.gj_problem_text.specs.FirstFault.{IsMemoryFault, NamesFirstFault}
use Rattle.gj_problem_text.specs.ProblemText.{title_words, lines_part, problem_text, IsProblemText}
use Rattle.gj_problem_text.specs.Ready.{IsReady}
use Rattle.gj_problem_text.specs.SafeInputs.{unruled_text, by_rule, function_input, gmic_input, BeginsAsFunction, safe_input, IsSafeInput, IsFirstFaultOfInput, NamesFirstFaultOfInput}
use Rattle.gj_problem_text.specs.declared.faults.ProblemFault.{ProblemFault}
use Rattle.gj_problem_text.specs.declared.faults.ProblemFault.TheVariants.{Refused, Memory}
use Rattle.gj_problem_text.specs.declared.input.SafeInput.{SafeInput}
use Rattle.gj_problem_text.specs.declared.task.Task.{Task}
use Rattle.gj_problem_text.proofs.ExactText.{behind_rule_is_exact, problem_text_is_exact}
use Rattle.gj_problem_text.proofs.ReadyTasks.{ready_lines, ready_text}
use Rattle.gj_problem_text.proofs.TextParts.{title_line, behind_rule}

-- ---- a problem text without the line of its rule

module _ (text behind : List ℕ) (title : title_line.Reads text tt behind) where
  pub fault_in_lines : (e : PartFault) → IsFaultOf lines_part behind e →
      IsFaultOf unruled_text text e
  fault_in_lines e fault =
      fault_in_next title_line (λ t. behind_rule) text tt behind e title
      (fault_in_first lines_part (λ task. end_part Lenient task) behind e fault)

  pub fault_behind : (task : Task) (rest : List ℕ) (e : PartFault) →
      lines_part.Reads behind task rest → IsTail Lenient rest e →
      IsFaultOf unruled_text text e
  fault_behind task rest e h tail =
      fault_in_next title_line (λ t. behind_rule) text tt behind e title
      (fault_in_next lines_part (λ task. end_part Lenient task) behind task rest e h
      (tail_refused Lenient task rest e tail))

  pub whole_text : (task : Task) (rest : List ℕ) → lines_part.Reads behind task rest →
      HasNothing Lenient rest →
      (end : List ℕ) × unruled_text.Reads text task end
  whole_text task rest h nothing =
      (rest, (tt, behind, title, (task, rest, h, (refl, refl, nothing))))

-- ---- the one form or the other

module _ (text : List ℕ) (not : BeginsAsFunction text → ⊥) where
  pub gmic_read : (task : Task) → IsProblemText text task →
      IsSafeInput text (record { «rule» = Gmic; task = task })
  gmic_read task (rest, h) = (rest, inr (not, (task, h, refl)))

  pub gmic_fault : (e : ProblemFault) → NamesFirstFault text e → NamesFirstFaultOfInput text e
  gmic_fault (Refused n e) (start, h, at) = (start, inr (not, h), at)
  gmic_fault (Memory a) h = tt

module _ (text : List ℕ) (is : BeginsAsFunction text) where
  pub function_fault : (n : ℕ) (e : Reason) → IsFirstFaultOfFunction text n e →
      IsFirstFaultOfInput text n e
  function_fault n e (start, h, at) = (start, inl (is, inl h), at)

  module _ (f : FunctionData) (middle : List ℕ) (function : IsFunctionText text f middle) where
    pub behind_read : (task : Task) → ((end : List ℕ) × unruled_text.Reads middle task end) →
        IsSafeInput text (record { «rule» = Table f; task = task })
    behind_read task (rest, h) = (rest, inl (is, (f, middle, function, (task, h, refl))))

    pub behind_fault : (e : PartFault) → IsFaultOf unruled_text middle e →
        IsFaultOf safe_input text e
    behind_fault e h =
        fault_where BeginsAsFunction function_input gmic_input text e is
        (fault_in_next function_text (λ g. by_rule (Table g) unruled_text) text f middle e function
        (fault_in_made (λ (task : Task) (asked : SafeInput). asked
        ≡ record { «rule» = Table f; task = task }) unruled_text middle e h))

-- ---- one input

unruled_text_is_exact : IsExactPart unruled_text.Reads unruled_text.Faults
unruled_text_is_exact =
    then_part_is_exact title_line (λ t. behind_rule)
    (line_part_is_exact Lenient (words_rule title_words) (words_rule_is_exact title_words))
    (λ t. behind_rule_is_exact)

by_rule_is_exact : (r : CutRule) (p : Part Task) → IsExactPart p.Reads p.Faults →
    IsExactPart (by_rule r p).Reads (by_rule r p).Faults
by_rule_is_exact r p exact =
    made_part_is_exact (λ (task : Task) (asked : SafeInput). asked
    ≡ record { «rule» = r; task = task }) (λ t a b h k. h ∙ sym k) p exact

pub safe_input_is_exact : IsExactPart safe_input.Reads safe_input.Faults
safe_input_is_exact =
    where_part_is_exact BeginsAsFunction function_input gmic_input
    (then_part_is_exact function_text (λ f. by_rule (Table f) unruled_text) function_text_is_exact
    (λ f. by_rule_is_exact (Table f) unruled_text unruled_text_is_exact))
    (by_rule_is_exact Gmic problem_text problem_text_is_exact)

pub one_input : (text : List ℕ) (a b : SafeInput) → IsSafeInput text a → IsSafeInput text b → a ≡ b
one_input text a b (r, h) (t, k) = (safe_input_is_exact.one_thing text a b r t h k).0

pub no_fault : (text : List ℕ) (a : SafeInput) (n : ℕ) (e : Reason) → IsSafeInput text a →
    IsFirstFaultOfInput text n e → ⊥
no_fault text a n e (rest, h) fault =
    numbers.no_first_fault safe_input safe_input_is_exact text a rest n e h fault

pub one_fault : (text : List ℕ) (n m : ℕ) (e d : Reason) → IsFirstFaultOfInput text n e →
    IsFirstFaultOfInput text m d → (n ≡ m) × (e ≡ d)
one_fault text n m e d h k = numbers.one_first_fault safe_input safe_input_is_exact text n m e d h k

-- what is read is the input, and only want of memory keeps it from being read
pub only_one : (text : List ℕ) (asked : SafeInput) (r : Result SafeInput ProblemFault) →
    IfOk r (IsSafeInput text) →
    IfErr r (NamesFirstFaultOfInput text) → IsSafeInput text asked →
    MatchResult r (λ a. a ≡ asked) IsMemoryFault
only_one text asked (Ok a) found fault h = one_input text a asked found h
only_one text asked (Err (Refused n e)) found fault h = no_fault text asked n e h fault
only_one text asked (Err (Memory a)) found fault h = tt

pub ready_input : (text : List ℕ) (asked : SafeInput) → IsSafeInput text asked → IsReady asked.task
ready_input text asked (
  rest,
  inl (
    is,
    (
      f,
      middle,
      function,
      (task, (t, behind, title, (told, end, read, (same, at, nothing))), made),
    ),
  ),
) =
    subst (λ (a : SafeInput). IsReady a.task) (sym made)
    (subst IsReady (sym same) (ready_lines told end behind read))
ready_input text asked (rest, inr (not, (task, h, made))) =
    subst (λ (a : SafeInput). IsReady a.task) (sym made) (ready_text text task (rest, h))
