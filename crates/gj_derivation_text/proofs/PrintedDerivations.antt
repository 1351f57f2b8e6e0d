-- The printed text of a derivation is read as that derivation.
use Rattle.std.proofs.Common.{◌≡◌, ◌≤◌, ◌<◌, ◌+◌, inl, inr, ℕ, Bool, true, false, IsTrue, Option}
use Rattle.std.proofs.Common.{Some, None, IsSome, IfSome, All, List, [], ◌∷◌, ◌++◌, map, length}
use Rattle.std.proofs.Common.{codes, append-nil, append_assoc, length-append, refl, sym, ap, subst}
use Rattle.std.proofs.Common.{◌∙◌, arith}
use Rattle.std.proofs.lemmas.Bool.{false≢true}
use Rattle.std.proofs.lemmas.List.{length-map}
use Rattle.std.proofs.lemmas.List.Elements.{All-head, All-tail}
use Rattle.gj_lex.specs.Name.{IsName}
use Rattle.gj_lex.specs.declared.spelling.Spelling.TheVariants.{Lenient}
use Rattle.gj_forms.specs.LineForms.{first_of, line_of}
use Rattle.gj_forms.specs.Parts.{words_rule, line_part, ReadsInTurn}
use Rattle.gj_forms.specs.Parts.ReadsInTurn.{last, onward}
use Rattle.gj_forms.specs.SpelledForms.{Spell}
use Rattle.gj_forms.specs.TextLines.{HasLine}
use Rattle.gj_forms.specs.TextLines.IsSkippedText.{nothing}
use Rattle.gj_forms.proofs.CanonicalLines.{words_line}
use Rattle.gj_forms.proofs.PlainWords.{known, name_is_plain, apart}
use Rattle.gj_forms.proofs.SpelledLines.{has_its_line, spells_its_thing}
use Rattle.gj_forms.proofs.WhereLaws.{begins_so, begins_with, other_word}
use Rattle.gj_shape.specs.FunctionData.{FunctionData, IsWithinBounds}
use Rattle.gj_function_lines.specs.FunctionLines.{line}
use Rattle.gj_function_text.specs.BreaksText.{end_words}
use Rattle.gj_function_text.specs.FunctionText.{IsFunctionText}
use Rattle.gj_function_text.proofs.Canonical.{canonical_text_is_function_text}
use Rattle.gj_derivation.specs.Drafts.{steps_of}
use Rattle.gj_derivation.specs.declared.draft.Draft.{Draft}
use Rattle.gj_derivation.specs.declared.draft.Shown.{Shown}
use Rattle.gj_derivation.specs.declared.draft.Shown.TheVariants as shown
use Rattle.gj_derivation.specs.declared.step.Step.{Step}
use Rattle.gj_derivation.specs.declared.step.StepRule.{StepRule}
use Rattle.gj_derivation.specs.declared.step.StepRule.TheVariants.{Function}
use Rattle.gj_problem_text.specs.CutText.{AreNames}
use Rattle.gj_problem_text.specs.PrintedProblem.{problem_lines}
use Rattle.gj_problem_text.specs.SafeInputs.{BeginsAsFunction}
use Rattle.gj_problem_text.proofs.PrintedInputs.{begins_as_function}
use Rattle.gj_problem_text.proofs.PrintedTasks.{no_place, next_differs, name_is}
use Rattle.gj_derivation_text.specs.DerivationInputs.{as_draft, input_part, Tells, IsOfDrafts}
use Rattle.gj_derivation_text.specs.DerivationInputs.{IsDerivationText}
use Rattle.gj_derivation_text.specs.DerivationText.{Head, most_steps, names_of, with_step}
use Rattle.gj_derivation_text.specs.DerivationText.{next_step, derivation_part}
use Rattle.gj_derivation_text.specs.OpenSteps.{index_in, begun, StepsGoOn, lines_of_step}
use Rattle.gj_derivation_text.specs.PrintedDerivation.{printed_lines, step_told, step_lines}
use Rattle.gj_derivation_text.specs.PrintedDerivation.{shown_lines, kept_names, HasFunctionText}
use Rattle.gj_derivation_text.specs.PrintedDerivation.{steps_text, IsDerivedText}
use Rattle.gj_derivation_text.specs.Readable.{AreReadableDrafts, IsReadableDraft}
use Rattle.gj_derivation_text.specs.Readable.{IsReadableDerivation}
use Rattle.gj_derivation_text.specs.StepLines.{rule_word, step_form}
use Rattle.gj_derivation_text.specs.VerdictLines.{left_out_line}
use Rattle.gj_derivation_text.specs.declared.drafts.Drafts.{Drafts}
use Rattle.gj_derivation_text.specs.declared.input.DerivationInput.{DerivationInput}
use Rattle.gj_derivation_text.specs.declared.input.DraftInput.{DraftInput}
use Rattle.gj_derivation_text.specs.RuleWords.{rule_is_plain}
use Rattle.gj_derivation_text.proofs.PrintedLeftOut.{IsAhead, left_out_is_ahead, steps_ahead}
use Rattle.gj_derivation_text.proofs.PrintedProblemLines.{told, task_of, problem_is_read}
use Rattle.gj_derivation_text.proofs.PrintedStepLines.{names_before, step_lines_are_read}
use Rattle.gj_derivation_text.proofs.TextRead as read
use Rattle.gj_derivation_text.proofs.DerivedReadable.{kept_count}

-- ---- one step

-- its first line
head_line : (name : List ℕ) (x : Step) (text rest : List ℕ) → IsName name →
    text ≡ line_of step_form (name, (x.combination.rule, tt)) ++ rest →
    HasLine Lenient text text (codes "step" ∷ name ∷ rule_word x.combination.rule ∷ []) rest
head_line name x text rest is_name is =
    has_its_line Lenient (step_form.fields (name, (x.combination.rule, tt))) text rest (
      known (codes "step") refl,
      (name_is_plain name is_name, rule_is_plain x.combination.rule),
    ) (λ e. omega (arith, e)) is

module _ (f : Option FunctionData) (has_function : Bool)
    (has : IsSome f → IsTrue has_function) (columns lines : List (List ℕ))
    (are_columns : AreNames columns) (are : AreNames lines) where
  step_is_read : (s : Drafts) (name : List ℕ) (behind : List (List ℕ)) (x : Step)
      (text next rest : List ℕ) → s.task.names ≡ columns →
      lines ≡ s.lines ++ name ∷ behind → length s.steps < most_steps →
      IsReadableDraft f (length columns) (length s.lines) (as_draft x) → IsAhead text next →
      next ≡ step_lines columns lines name x ++ rest → StepsGoOn rest →
      (next_step false has_function s).Reads text
      (inl (with_step s name (length next) (as_draft x))) rest
  step_is_read s name behind x text next rest own is few h ahead whole on =
      inr (
        other_word Lenient text next words (codes "end") after found
            (λ more e. apart (codes "step") (codes "end") refl (ap first_of e)),
        (
          with_step s name (length next) (as_draft x),
          (
            (head, length next),
            after,
            ((next, words, found, (head, spelled, (needs, few, new, refl)), refl)),
            (as_draft x, lines_read, refl),
          ),
          refl,
        ),
      )
    where
      rule : StepRule
      rule = x.combination.rule

      head : Head
      head = (name, (rule, tt))

      words : List (List ℕ)
      words = codes "step" ∷ name ∷ rule_word rule ∷ []

      after : List ℕ
      after = printed_lines (step_told columns lines x) ++ rest

      all : AreNames (s.lines ++ name ∷ behind)
      all = subst AreNames is are

      is_name : IsName name
      is_name = name_is s.lines name behind all

      found : HasLine Lenient text next words after
      found = ahead next words after (head_line name x next after is_name
          (whole
          ∙ append_assoc (line_of step_form head) (printed_lines (step_told columns lines x)) rest))

      spelled : Spell Lenient step_form words head
      spelled = spells_its_thing Lenient step_form head
          (known (codes "step") refl, (name_is_plain name is_name, rule_is_plain rule))
          (is_name, (tt, tt))

      needs : rule ≡ Function → IsTrue has_function
      needs e = has (h.combination.function e)

      new : index_in s.lines name ≡ None
      new = no_place s.lines name (next_differs s.lines name behind all)

      readable : IsReadableDraft f (length s.task.names) (length s.lines) (as_draft x)
      readable =
          subst
          (λ (own : List (List ℕ)). IsReadableDraft f (length own) (length s.lines) (as_draft x))
          (sym own) h

      lines_read : (lines_of_step (names_of false s) (begun rule)).Reads after (as_draft x) rest
      lines_read =
          step_lines_are_read f (names_of false s) lines (name ∷ behind) x is
          (subst AreNames (sym own) are_columns) are
          readable.combination readable.claim after rest on
          (ap (λ (names : List (List ℕ)). printed_lines (step_told names lines x) ++ rest)
          (sym own))

  -- ---- all steps

  goes_on : (names : List (List ℕ)) (xs : List Shown) (text : List ℕ) → length names ≡ length xs →
      All IsName names →
      text ≡ shown_lines columns lines names xs ++ line (codes "end") → StepsGoOn text
  goes_on [] [] text count good is =
      let end = words_line Lenient (codes "end") [] text [] refl (λ e. omega arith) is in
      inr ([], begins_so Lenient text [] end_words end)
  goes_on [] (x ∷ xs) text count good is = absurd (omega (arith, count))
  goes_on (name ∷ names) [] text count good is = absurd (omega (arith, count))
  goes_on (name ∷ names) (shown.Step x ∷ xs) text count good is =
      let behind = printed_lines (step_told columns lines x) in
      let more = shown_lines columns lines names xs in
      let after = behind ++ (more ++ line (codes "end")) in
      let head = line_of step_form (name, (x.combination.rule, tt)) in
      let found = head_line name x text after (All-head IsName name names good)
      (is ∙ append_assoc (head ++ behind) more (line (codes "end"))
      ∙ append_assoc head behind (more ++ line (codes "end"))) in
      let others = name ∷ rule_word x.combination.rule ∷ [] in
      inl (begins_with Lenient text text (codes "step" ∷ others) others (codes "step") after found
      refl)
  goes_on (name ∷ names) (shown.Against v ∷ xs) text count good is =
      let more = shown_lines columns lines names xs ++ line (codes "end") in
      steps_ahead text more
      (left_out_is_ahead columns lines name v text more are_columns are
      (All-head IsName name names good)
      (is ∙ append_assoc (left_out_line columns lines name v) (shown_lines columns lines names xs)
      (line (codes "end"))))
      (goes_on names xs more (omega (arith, count)) (All-tail IsName name names good) refl)

  abbrev with_steps : Drafts → List (List ℕ) → List Draft → List ℕ → Drafts
  with_steps s names drafts left = record s {
    lines = s.lines ++ names;
    steps = s.steps ++ drafts;
    left = s.left ++ left;
  }

  abbrev AreRead : Drafts → List (List ℕ) → List Draft → List ℕ → Type 0
  AreRead s names drafts text =
      (left : List ℕ)
      × ReadsInTurn (λ u. (next_step false has_function u).Reads) (with_steps s names drafts left)
      [] s text

  one_more : (s : Drafts) (name : List ℕ) (names : List (List ℕ)) (start : ℕ) (d : Draft)
      (drafts : List Draft) (text rest : List ℕ) →
      (next_step false has_function s).Reads text (inl (with_step s name start d)) rest →
      AreRead (with_step s name start d) names drafts rest →
      AreRead s (name ∷ names) (d ∷ drafts) text
  one_more s name names start d drafts text rest one (left, more) =
      let t = with_step s name start d in
      let in_lines = append_assoc s.lines (name ∷ []) names in
      let in_steps = append_assoc s.steps (d ∷ []) drafts in
      let in_left = append_assoc s.left (start ∷ []) left in
      let same :
      with_steps t names drafts left
      ≡ with_steps s (name ∷ names) (d ∷ drafts) (start ∷ left) =
      λ i. record s { lines = in_lines i; steps = in_steps i; left = in_left i } in (
        start ∷ left,
        onward s text t rest one
            (subst
            (λ (u : Drafts). ReadsInTurn (λ v. (next_step false has_function v).Reads) u [] t rest)
            same more),
      )

  steps_are_read : (s : Drafts) (names : List (List ℕ)) (xs : List Shown) (text next : List ℕ) →
      s.task.names ≡ columns → lines ≡ s.lines ++ kept_names names xs →
      length names ≡ length xs → All IsName names →
      length s.steps + length (steps_of xs) ≤ most_steps →
      AreReadableDrafts f (length columns) (length s.lines) (map as_draft (steps_of xs)) →
      IsAhead text next →
      next ≡ shown_lines columns lines names xs ++ line (codes "end") →
      AreRead s (kept_names names xs) (map as_draft (steps_of xs)) text
  steps_are_read s [] [] text next own is count good few h ahead whole =
      let (start, words, end, spelled) =
      words_line Lenient (codes "end") [] next [] refl (λ e. omega arith) whole in
      let found : (line_part Lenient (words_rule end_words)).Reads text tt [] =
      (start, words, ahead start words [] end, spelled) in
      let in_lines = append-nil s.lines in
      let in_steps = append-nil s.steps in
      let in_left = append-nil s.left in (
        [],
        last s text (inl (
          ([], begins_so Lenient text [] end_words found),
          (
            tt,
            found,
            λ i. inr (record s { lines = in_lines i; steps = in_steps i; left = in_left i }),
          ),
        )),
      )
  steps_are_read s [] (x ∷ xs) text next own is count good few h ahead whole =
      absurd (omega (arith, count))
  steps_are_read s (name ∷ names) [] text next own is count good few h ahead whole =
      absurd (omega (arith, count))
  steps_are_read s (name ∷ names) (shown.Step x ∷ xs) text next own is count good few h ahead w =
      let kept = kept_names names xs in
      let rest = shown_lines columns lines names xs ++ line (codes "end") in
      let others = All-tail IsName name names good in
      let t = with_step s name (length next) (as_draft x) in
      let one = step_is_read s name kept x text next rest own is (omega (arith, few)) h.0 ahead
      (w ∙ append_assoc (step_lines columns lines name x) (shown_lines columns lines names xs)
      (line (codes "end")))
      (goes_on names xs rest (omega (arith, count)) others refl) in
      let longer : length s.lines + 1 ≡ length t.lines =
      omega (arith, length-append s.lines (name ∷ [])) in
      let behind = map as_draft (steps_of xs) in
      let more = steps_are_read t names xs rest rest own
      (is ∙ sym (append_assoc s.lines (name ∷ []) kept)) (omega (arith, count)) others
      (omega (arith, few, length-append s.steps (as_draft x ∷ [])))
      (subst (λ (n : ℕ). AreReadableDrafts f (length columns) n behind) longer h.1)
      (λ start words end found. found) refl in
      one_more s name kept (length next) (as_draft x) behind text rest one more
  steps_are_read s (name ∷ names) (shown.Against v ∷ xs) text next own is count good few h ahead w =
      let rest = shown_lines columns lines names xs ++ line (codes "end") in
      let skips = left_out_is_ahead columns lines name v next rest are_columns are
      (All-head IsName name names good)
      (w ∙ append_assoc (left_out_line columns lines name v) (shown_lines columns lines names xs)
      (line (codes "end"))) in
      steps_are_read s names xs text rest own is (omega (arith, count))
      (All-tail IsName name names good) few h
      (λ start words end found. ahead start words end (skips start words end found)) refl

-- ---- the whole text

module _ (d : DerivationInput) (constraints names : List (List ℕ)) (xs : List Shown) (text : List ℕ)
    (h : IsReadableDerivation d)
    (k : IsDerivedText d constraints names xs text) where
  abbrev kept : List (List ℕ)
  kept = kept_names names xs

  abbrev lines : List (List ℕ)
  lines = constraints ++ kept

  abbrev steps : List Draft
  steps = map as_draft (steps_of xs)

  are_lines : AreNames lines
  are_lines = subst AreNames k.lines h.steps.names

  step_count : length (map as_draft d.steps) ≡ length (steps_of xs)
  step_count = length-map d.steps as_draft ∙ ap (λ (ss : List Step). length ss) k.steps

  count : length constraints ≡ length d.problem.constraints
  count = omega (
    arith,
    h.steps.count,
    ap (λ (all : List (List ℕ)). length all) k.lines,
    length-append constraints kept,
    kept_count names xs k.count,
    step_count,
  )

  readable : AreReadableDrafts d.function (length d.columns) (length constraints) steps
  readable =
      subst (λ (n : ℕ). AreReadableDrafts d.function (length d.columns) n steps) (sym count)
      (subst
      (λ (ss : List Step).
      AreReadableDrafts d.function (length d.columns) (length d.problem.constraints)
      (map as_draft ss)) k.steps h.steps.readable)

  few : 0 + length (steps_of xs) ≤ most_steps
  few = omega (arith, h.steps.few, step_count)

  abbrev ready : Drafts
  ready = told (task_of d.columns d.problem) constraints

  abbrev drafts : List ℕ → Drafts
  drafts left = record ready { lines = lines; steps = steps; left = left }

  -- the title and what follows
  abbrev rest : List ℕ
  rest = steps_text d.columns constraints names xs

  abbrev middle : List ℕ
  middle = line (codes "gj-derivation 1") ++ (problem_lines d.columns constraints d.problem ++ rest)

  titled : (whole : List ℕ) → whole ≡ middle →
      (line_part Lenient (words_rule (codes "gj-derivation" ∷ codes "1" ∷ []))).Reads whole tt
      (problem_lines d.columns constraints d.problem ++ rest)
  titled whole is =
      words_line Lenient (codes "gj-derivation") (codes "1" ∷ []) whole
      (problem_lines d.columns constraints d.problem ++ rest) refl (λ e. omega arith) is

  part_is_read : (has_function : Bool) (whole : List ℕ) →
      (IsSome d.function → IsTrue has_function) → whole ≡ middle →
      (left : List ℕ) × Tells (derivation_part false has_function) whole (drafts left)
  part_is_read has_function whole has is =
      let behind = problem_lines d.columns constraints d.problem ++ rest in
      let title = titled whole is in
      let columns = h.problem.names in
      let on = goes_on d.function has_function has d.columns lines columns are_lines names xs rest
      k.count k.are refl in
      let problem = problem_is_read d.columns constraints d.problem behind rest h.problem
      (names_before constraints kept are_lines) count on refl in
      let (left, all) = steps_are_read d.function has_function has d.columns lines columns are_lines
      ready names xs rest rest refl refl k.count k.are few readable
      (λ start words end found. found) refl in (
        left,
        (
          [],
          (
            tt,
            behind,
            title,
            (ready, rest, problem, (drafts left, [], all, (refl, refl, nothing [] refl))),
          ),
        ),
      )

  abbrev input : List ℕ → DraftInput
  input left = record { function = d.function; drafts = drafts left }

  is_input : (left : List ℕ) → IsOfDrafts (input left) (record d { left = left })
  is_input left =
      let own = sym k.lines in
      let same = sym k.steps in
      λ i. record {
        function = d.function;
        drafts = record {
          task = task_of d.columns d.problem;
          lines = own i;
          steps = map as_draft (same i);
          left = left;
        };
      }

  grouped : (function title problem steps : List ℕ) →
      (function ++ (title ++ problem)) ++ steps ≡ function ++ (title ++ (problem ++ steps))
  grouped function title problem steps = simp append_assoc

  input_is_read : (f : Option FunctionData) (function : List ℕ) → d.function ≡ f →
      HasFunctionText f function → IfSome f IsWithinBounds →
      text ≡ function ++ middle →
      (left : List ℕ)
      × Tells (input_part false) text (record { function = f; drafts = drafts left })
  input_is_read None function same is within whole =
      let start : text ≡ middle = whole ∙ ap (λ (t : List ℕ). t ++ middle) is in
      let title = titled text start in
      let other : BeginsAsFunction text → ⊥ =
      other_word Lenient text title.0 title.1 (codes "gj-function")
      (problem_lines d.columns constraints d.problem ++ rest) title.2
      (λ more e. apart (codes "gj-derivation") (codes "gj-function") refl
      (ap first_of (sym title.3 ∙ e))) in
      let (left, told_so) = part_is_read false text
      (λ some. absurd (false≢true (subst (λ (f : Option FunctionData). IsSome f) same some)))
      start in
      (left, read.plain_read false text other (drafts left) told_so)
  input_is_read (Some f) function same is within whole =
      let begins = begins_as_function f function middle text is whole in
      let found = subst (λ (t : List ℕ). IsFunctionText t f middle) (sym whole)
      (canonical_text_is_function_text f function middle within is) in
      let (left, told_so) = part_is_read true middle (λ some. refl) refl in
      (left, read.behind_read false text begins f middle found (drafts left) told_so)

  pub derived_is_read : (left : List ℕ) × IsDerivationText text (record d { left = left })
  derived_is_read =
      let (function, has, front) = k.front_is in
      let whole = k.text_is ∙ ap (λ (t : List ℕ). t ++ rest) front
      ∙ grouped function (line (codes "gj-derivation 1")) (problem_lines d.columns constraints
      d.problem) rest in
      let (left, (end, found)) = input_is_read d.function function refl has h.function whole in
      (left, (end, (input left, found, is_input left)))
