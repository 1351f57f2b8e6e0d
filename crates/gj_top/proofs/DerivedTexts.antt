-- The text of the steps that drafts show.
use Rattle.std.proofs.Common.{◌≡◌, ℕ, ◌+◌, ◌-◌, ◌≤◌, List, [], ◌++◌, length, map, take, drop, refl, sym, subst, arith, length-append}
use Rattle.std.proofs.lemmas.List.{take_all, take-append-drop, length-take-le, length-drop, length-map}
use Rattle.std.proofs.lemmas.List.Elements.{All-drop}
use Rattle.gj_lex.specs.Name.{IsName}
use Rattle.gj_problem_text.specs.CutText.{AreNames}
use Rattle.gj_derivation.specs.Drafts.{steps_of}
use Rattle.gj_derivation.specs.declared.draft.Derived.TheVariants as derived
use Rattle.gj_derivation.specs.declared.draft.Shown.{Shown}
use Rattle.gj_derivation_text.specs.DerivationInputs.{as_draft}
use Rattle.gj_derivation_text.specs.DerivationText.{most_steps}
use Rattle.gj_derivation_text.specs.PrintedDerivation.{IsFront, kept_names, steps_text}
use Rattle.gj_derivation_text.specs.Readable.{AreReadable}
use Rattle.gj_derivation_text.specs.declared.input.DerivationInput.{DerivationInput}
use Rattle.gj_derivation_text.specs.declared.input.DraftInput.{DraftInput}
use Rattle.gj_derivation_text.proofs.DerivedReadable.{shown_count, derived_readable, kept_are_names, kept_count, steps_few}
use Rattle.gj_top.specs.Derive.{IsDerived, IsFilledIn, constraint_names, step_names, shown_names}

-- the rest of a list behind its first elements
pub rest_is : {A : Type 0} (n : ℕ) (xs : List A) → take (length xs - n) (drop n xs) ≡ drop n xs
rest_is n xs = take_all (length xs - n) (drop n xs) (omega (arith, length-drop n xs))

module _ (a : DraftInput) (xs : List Shown) (readable : AreReadable a.function a.drafts)
    (all : IsDerived a (derived.All xs)) where
  enough : length a.drafts.task.problem.constraints ≤ length a.drafts.lines
  enough = omega (arith, readable.steps.count)

  counted : length a.drafts.steps ≡ length xs
  counted = shown_count a.function a.drafts.task.grid _ a.drafts.steps xs all

  pub names_counted : length (step_names a.drafts) ≡ length xs
  names_counted =
      omega (
        arith,
        length-drop (length a.drafts.task.problem.constraints) a.drafts.lines,
        readable.steps.count,
        counted,
      )

  -- what is derived, as it is told again
  abbrev derivation : DerivationInput
  derivation = record {
    function = a.function;
    columns = a.drafts.task.names;
    lines = shown_names a.drafts xs;
    problem = a.drafts.task.problem;
    steps = steps_of xs;
    left = [];
  }

  lines_counted : length (shown_names a.drafts xs) ≡ length a.drafts.task.problem.constraints
      + length (map as_draft (steps_of xs))
  lines_counted =
      omega (
        arith,
        length-append (constraint_names a.drafts) (kept_names (step_names a.drafts) xs),
        length-take-le (length a.drafts.task.problem.constraints) a.drafts.lines enough,
        kept_count (step_names a.drafts) xs names_counted,
        length-map (steps_of xs) as_draft,
      )

  few : length (map as_draft (steps_of xs)) ≤ most_steps
  few = omega (arith, length-map (steps_of xs) as_draft, steps_few xs, counted, readable.steps.few)

  pub filled_in : (text front : List ℕ) →
      IsFront a.function a.drafts.task.names (constraint_names a.drafts) a.drafts.task.problem
      front →
      text ≡ front ++ steps_text a.drafts.task.names (constraint_names a.drafts)
      (step_names a.drafts) xs → IsFilledIn a xs text
  filled_in text front is spelled = record {
    derivation = derivation;
    function = refl;
    columns = refl;
    problem = refl;
    readable = record {
      function = readable.function;
      problem = readable.problem;
      steps = record {
        names = kept_are_names (constraint_names a.drafts) (step_names a.drafts) xs
            (subst AreNames (sym
            (take-append-drop (length a.drafts.task.problem.constraints) a.drafts.lines))
            readable.steps.names);
        count = lines_counted;
        few = few;
        readable = derived_readable a.function a.drafts.task.grid a.drafts.task.problem
            (length a.drafts.task.names) _ a.drafts.steps xs
            readable.problem.column_count all readable.steps.readable;
      };
    };
    text_is = record {
      steps = refl;
      lines = refl;
      count = names_counted;
      are = All-drop IsName (length a.drafts.task.problem.constraints) a.drafts.lines
          readable.steps.names.are;
      front = front;
      front_is = is;
      text_is = spelled;
    };
  }
