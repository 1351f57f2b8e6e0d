-- The printed text of a problem with its rule is read as that problem with that rule.
use Rattle.std.proofs.Common.{◌≡◌, ◌≢◌, inl, inr, ℕ, List, [], ◌∷◌, ◌++◌, codes, get_or, arith}
use Rattle.std.proofs.Common.{append-nil, refl, sym, ap, subst, ◌∙◌}
use Rattle.std.proofs.lemmas.List.{append_assoc}
use Rattle.gj_lex.specs.declared.spelling.Spelling.TheVariants.{Lenient}
use Rattle.gj_forms.specs.LineForms.{words_of, first_of, line_of}
use Rattle.gj_forms.specs.Parts.{ReadsInTurn}
use Rattle.gj_forms.specs.Parts.ReadsInTurn.{last, onward}
use Rattle.gj_forms.specs.TextLines.IsSkippedText.{nothing}
use Rattle.gj_forms.proofs.CanonicalLines.{words_line}
use Rattle.gj_forms.proofs.PlainWords.{apart}
use Rattle.gj_forms.proofs.SpelledLines.{has_its_line}
use Rattle.gj_forms.proofs.WhereLaws.{other_word, begins_so}
use Rattle.gj_shape.specs.FunctionData.{FunctionData}
use Rattle.gj_function_lines.specs.FunctionLines.{line}
use Rattle.gj_function_text.specs.BreaksText.{end_words}
use Rattle.gj_function_text.specs.FunctionText.{IsFunctionText, IsCanonicalText}
use Rattle.gj_function_text.proofs.Canonical.{canonical_text_is_function_text}
use Rattle.gj_proof.specs.declared.cut.CutRule.{CutRule}
use Rattle.gj_proof.specs.declared.cut.CutRule.TheVariants.{Gmic, Table}
use Rattle.gj_problem_text.specs.PrintedInput.{task_told, HasFront, IsPrintedInput}
use Rattle.gj_problem_text.specs.PrintedProblem.{printed}
use Rattle.gj_problem_text.specs.ProblemLines.{ProblemLine, column, constraint, entry, upper, sum}
use Rattle.gj_problem_text.specs.ProblemLines.{grid, round, problem_fields, problem_form}
use Rattle.gj_problem_text.specs.ProblemText.{no_task, next_line, lines_part}
use Rattle.gj_problem_text.specs.SafeInputs.{BeginsAsFunction, IsSafeInput}
use Rattle.gj_problem_text.specs.Tasks.{Adds}
use Rattle.gj_problem_text.specs.declared.input.SafeInput.{SafeInput}
use Rattle.gj_problem_text.specs.declared.task.Task.{Task}
use Rattle.gj_problem_text.proofs.InputParts as parts
use Rattle.gj_problem_text.proofs.NumberLines.{tells_its_thing}
use Rattle.gj_problem_text.proofs.PrintedTasks.{IsPrintedLine, AddsAll, task_is_told}
use Rattle.gj_problem_text.proofs.TextParts.{whole_text}

-- ---- a line

-- it is no comment
pub no_comment : (l : ProblemLine) → get_or (first_of (words_of (problem_fields l))) 0 0 ≢ 35
no_comment (column name is_whole low high) = λ is. omega arith
no_comment (constraint name sense right) = λ is. omega arith
no_comment (entry name value) = λ is. omega arith
no_comment (upper name) = λ is. omega arith
no_comment (sum multipliers) = λ is. omega arith
no_comment (grid n) = λ is. omega arith
no_comment (round n) = λ is. omega arith

-- nor the end
no_end : (l : ProblemLine) (words : List (List ℕ)) →
    words_of (problem_fields l) ≡ codes "end" ∷ words → ⊥
no_end (column name is_whole low high) words is =
    apart (codes "column") (codes "end") refl (ap first_of is)
no_end (constraint name sense right) words is =
    apart (codes "constraint") (codes "end") refl (ap first_of is)
no_end (entry name value) words is = apart (codes "entry") (codes "end") refl (ap first_of is)
no_end (upper name) words is = apart (codes "upper") (codes "end") refl (ap first_of is)
no_end (sum multipliers) words is = apart (codes "sum") (codes "end") refl (ap first_of is)
no_end (grid n) words is = apart (codes "grid") (codes "end") refl (ap first_of is)
no_end (round n) words is = apart (codes "round") (codes "end") refl (ap first_of is)

line_is_read : (s u : Task) (l : ProblemLine) (text rest : List ℕ) → IsPrintedLine l → Adds s l u →
    text ≡ line_of problem_form l ++ rest → (next_line s).Reads text (inl u) rest
line_is_read s u l text rest (good, has) adds is =
    let words = words_of (problem_fields l) in
    let found = has_its_line Lenient (problem_fields l) text rest good (no_comment l) is in
    let told = tells_its_thing problem_form l good has in
    inr (
      other_word Lenient text text words (codes "end") rest found (no_end l),
      (u, (text, words, found, (l, told, adds)), refl),
    )

-- ---- all lines

-- they are read up to the line `end`
lines_are_read : (s t : Task) (lines : List ProblemLine) (rest : List ℕ) → AddsAll s lines t →
    ReadsInTurn (λ u. (next_line u).Reads) t rest s
    (printed lines ++ (line (codes "end") ++ rest))
lines_are_read s t [] rest same =
    let text = line (codes "end") ++ rest in
    let end = words_line Lenient (codes "end") [] text rest refl (λ is. omega arith) refl in
    last s text
    (inl (([], begins_so Lenient text rest end_words end), (tt, end, ap inr (sym same))))
lines_are_read s t (l ∷ lines) rest (u, good, adds, more) =
    let behind = printed lines ++ (line (codes "end") ++ rest) in
    let text = printed (l ∷ lines) ++ (line (codes "end") ++ rest) in
    let is = append_assoc (line_of problem_form l) (printed lines) (line (codes "end") ++ rest) in
    onward s text u behind (line_is_read s u l text behind good adds is)
    (lines_are_read u t lines rest more)

-- ---- the whole text

regrouped : (title head lines end : List ℕ) →
    (title ++ head) ++ lines ++ end ≡ title ++ (head ++ (lines ++ (end ++ [])))
regrouped title head lines end = simp (append_assoc, append-nil)

-- by the line `rule gmic`
gmic_is_read : (s : Task) (lines text : List ℕ) →
    lines_part.Reads (lines ++ (line (codes "end") ++ [])) s [] →
    text
    ≡ (line (codes "gj-problem 1") ++ line (codes "rule gmic")) ++ lines ++ line (codes "end") →
    IsSafeInput text (record { «rule» = Gmic; task = s })
gmic_is_read s lines text read is =
    let behind = lines ++ (line (codes "end") ++ []) in
    let middle = line (codes "rule gmic") ++ behind in
    let whole = is
    ∙ regrouped (line (codes "gj-problem 1")) (line (codes "rule gmic")) lines
    (line (codes "end")) in
    let title = words_line Lenient (codes "gj-problem") (codes "1" ∷ []) text middle refl
    (λ z. omega arith) whole in
    let head = words_line Lenient (codes "rule") (codes "gmic" ∷ []) middle behind refl
    (λ z. omega arith) refl in
    let other : BeginsAsFunction text → ⊥ =
    other_word Lenient text title.0 title.1 (codes "gj-function") middle title.2
    (λ more same. apart (codes "gj-problem") (codes "gj-function") refl
    (ap first_of (sym title.3 ∙ same))) in
    parts.gmic_read text other s
    (whole_text text middle title behind head s [] read (nothing [] refl))

-- a canonical text of a function begins with the word for one
first_line : (title lines end behind : List ℕ) →
    (title ++ lines ++ end) ++ behind ≡ title ++ (lines ++ (end ++ behind))
first_line title lines end behind = simp append_assoc

pub begins_as_function : (f : FunctionData) (function behind text : List ℕ) →
    IsCanonicalText function f → text ≡ function ++ behind → BeginsAsFunction text
begins_as_function f function behind text canonical is =
    let rest = canonical.lines ++ (line (codes "end") ++ behind) in
    let whole : text ≡ line (codes "gj-function 1") ++ rest =
    is ∙ ap (λ (t : List ℕ). t ++ behind) canonical.spelled
    ∙ first_line (line (codes "gj-function 1")) canonical.lines (line (codes "end")) behind in (
      codes "1" ∷ [],
      begins_so Lenient text rest (codes "gj-function" ∷ codes "1" ∷ [])
          (words_line Lenient (codes "gj-function") (codes "1" ∷ []) text rest refl
          (λ z. omega arith)
          whole),
    )

-- by a function
function_is_read : (f : FunctionData) (s : Task) (function lines text : List ℕ) →
    HasFront (Table f) function → lines_part.Reads (lines ++ (line (codes "end") ++ [])) s [] →
    text ≡ function ++ lines ++ line (codes "end") →
    IsSafeInput text (record { «rule» = Table f; task = s })
function_is_read f s front lines text (function, within, canonical, front_is) read is =
    let behind = lines ++ (line (codes "end") ++ []) in
    let middle = line (codes "gj-problem 1") ++ behind in
    let whole : text ≡ function ++ middle =
    is ∙ ap (λ (t : List ℕ). t ++ lines ++ line (codes "end")) front_is
    ∙ regrouped function (line (codes "gj-problem 1")) lines (line (codes "end")) in
    let read_function = subst (λ (t : List ℕ). IsFunctionText t f middle) (sym whole)
    (canonical_text_is_function_text f function middle within canonical) in
    let title = words_line Lenient (codes "gj-problem") (codes "1" ∷ []) middle behind refl
    (λ z. omega arith) refl in
    parts.behind_read text (begins_as_function f function middle text canonical whole) f middle
    read_function s
    (parts.whole_text middle behind title s [] read (nothing [] refl))

by_rule : (r : CutRule) (s : Task) (front lines text : List ℕ) → HasFront r front →
    lines_part.Reads (lines ++ (line (codes "end") ++ [])) s [] →
    text ≡ front ++ lines ++ line (codes "end") →
    IsSafeInput text (record { «rule» = r; task = s })
by_rule Gmic s front lines text is read whole =
    gmic_is_read s lines text read
    (whole ∙ ap (λ (t : List ℕ). t ++ lines ++ line (codes "end")) is)
by_rule (Table f) s front lines text is read whole =
    function_is_read f s front lines text is read whole

pub printed_is_read : (asked : SafeInput) (text : List ℕ) → IsPrintedInput asked text →
    IsSafeInput text asked
printed_is_read asked text h =
    let told = task_told h.constraint_names asked.task in
    by_rule asked.rule asked.task h.front (printed told) text h.front_is
    (lines_are_read no_task asked.task told []
    (task_is_told h.constraint_names asked.task h.printable)) h.text_is
