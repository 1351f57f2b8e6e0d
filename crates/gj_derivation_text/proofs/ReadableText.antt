-- What a text tells is readable, and a text that tells a derivation tells one.
use Rattle.std.proofs.Common.{◌≡◌, inl, inr, ℕ, ◌+◌, ◌≤◌, Bool, true, false, IsTrue, Option, Some, None, IsSome, IfSome, ◌<◌, List, [], ◌∷◌, All, Result, Ok, Err, IfOk, IfErr, MatchResult, map, length, refl, sym, ap, subst, ◌∙◌, arith}
use Rattle.std.proofs.lemmas.Bool.{false≢true}
use Rattle.std.proofs.lemmas.List.Elements.{All-nil}
use Rattle.std.proofs.lemmas.List.{length-map}
use Rattle.gj_forms.specs.Parts.{IsExactPart}
use Rattle.gj_forms.proofs.LineNumbers as numbers
use Rattle.gj_forms.proofs.PartLaws.{made_part_is_exact}
use Rattle.gj_shape.specs.FunctionData.{FunctionData, IsWithinBounds}
use Rattle.gj_function_text.proofs.FunctionTexts.{function_is_within}
use Rattle.gj_derivation.specs.declared.draft.Draft.{Draft}
use Rattle.gj_derivation.specs.declared.step.Step.{Step}
use Rattle.gj_problem_text.specs.FirstFault.{IsMemoryFault}
use Rattle.gj_problem_text.specs.declared.faults.ProblemFault.{ProblemFault}
use Rattle.gj_problem_text.specs.declared.faults.ProblemFault.TheVariants.{Refused, Memory}
use Rattle.gj_problem_text.specs.declared.task.Task.{Task}
use Rattle.gj_derivation_text.specs.DerivationText.{no_drafts, derivation_part}
use Rattle.gj_derivation_text.specs.DerivationInputs.{as_draft, HasGivenClaim, IsOfDrafts, input_part, derivation_input, Tells, NamesFirstFaultIn}
use Rattle.gj_derivation_text.specs.Readable.{AreReadableDrafts, IsReadableProblem, AreReadableSteps, AreReadable, IsReadableDerivation}
use Rattle.gj_derivation_text.specs.declared.drafts.Drafts.{Drafts}
use Rattle.gj_derivation_text.specs.declared.input.DraftInput.{DraftInput}
use Rattle.gj_derivation_text.specs.declared.input.DerivationInput.{DerivationInput}
use Rattle.gj_derivation_text.proofs.GivenClaims.{same_steps}
use Rattle.gj_derivation_text.proofs.ReadableProblem.{IsProblem, problem_in_turn, no_problem}
use Rattle.gj_derivation_text.proofs.ReadableSteps.{AreSteps, steps_readable}
use Rattle.gj_derivation_text.proofs.TextRead.{input_part_is_exact, one_told}

-- ---- drafts

-- behind the problem no step is told yet
no_steps : (f : Option FunctionData) (drafts : Bool) (s : Drafts) → IsProblem s →
    AreSteps f drafts s.task (length s.task.problem.constraints) s
no_steps f drafts s h =
    record {
      same_task = refl;
      names = h.lines;
      count = omega (arith, h.count, ap length h.steps);
      few = omega (arith, ap length h.steps);
      readable = subst (λ (ds : List Draft). AreReadableDrafts f (length s.task.names)
          (length s.task.problem.constraints) ds) (sym h.steps) tt;
      left = omega (arith, ap length h.steps, ap length h.left);
      given = λ off. subst (All HasGivenClaim) (sym h.steps) (All-nil HasGivenClaim);
    }

abbrev IsSo : Option FunctionData → Bool → Drafts → Type 0
IsSo f drafts s = AreReadable f s × (drafts ≡ false → All HasGivenClaim s.steps)

are_so : (f : Option FunctionData) (drafts : Bool) (s t : Drafts) → IfSome f IsWithinBounds →
    IsProblem s → AreSteps f drafts s.task (length s.task.problem.constraints) t →
    IsSo f drafts t
are_so f drafts s t within p h =
    let same = sym h.same_task in (
      record {
        function = within;
        problem = subst (λ (u : Task). IsReadableProblem u.names u.problem) same (record {
          names = p.task.names;
          column_count = p.task.column_count;
          columns_few = p.task.columns_few;
          constraints_few = p.task.constraints_few;
          known = p.task.known;
          entries_few = omega (arith, p.task.entries, p.task.entries_few);
        });
        steps = subst (λ (u : Task). AreReadableSteps f (length u.names)
            (length u.problem.constraints) t.lines t.steps) same
            (record { names = h.names; count = h.count; few = h.few; readable = h.readable });
        grid = subst (λ (u : Task). IfSome u.grid (λ n. 0 < n)) same p.task.grid;
        left = h.left;
      },
      h.given,
    )

part_is_so : (f : Option FunctionData) (drafts has_function : Bool) (text rest : List ℕ)
    (t : Drafts) → (IsTrue has_function → IsSome f) →
    IfSome f IsWithinBounds → (derivation_part drafts has_function).Reads text t rest →
    IsSo f drafts t
part_is_so f drafts has_function text rest t has within
    (u, lines, title, (s, middle, problem, (all, end, steps, (same, at, nothing)))) =
    let p = problem_in_turn drafts s middle no_drafts lines problem no_problem in
    let read = steps_readable f drafts has_function s.task (length s.task.problem.constraints) has
    all end s middle steps (no_steps f drafts s p) in
    subst (IsSo f drafts) (sym same) (are_so f drafts s all within p read)

pub input_is_so : (drafts : Bool) (text : List ℕ) (a : DraftInput) →
    Tells (input_part drafts) text a → IsSo a.function drafts a.drafts
input_is_so drafts text a (rest, inl (is, (f, middle, function, (s, part, made)))) =
    subst (λ (b : DraftInput). IsSo b.function drafts b.drafts) (sym made)
    (part_is_so (Some f) drafts true middle rest s (λ t. refl)
    (function_is_within text f middle function) part)
input_is_so drafts text a (rest, inr (not, (s, part, made))) =
    subst (λ (b : DraftInput). IsSo b.function drafts b.drafts) (sym made)
    (part_is_so None drafts false text rest s (λ on. absurd (false≢true on)) tt part)

pub drafts_are_readable : (text : List ℕ) (a : DraftInput) → Tells (input_part true) text a →
    AreReadable a.function a.drafts
drafts_are_readable text a h = (input_is_so true text a h).0

pub claims_are_given : (text : List ℕ) (a : DraftInput) → Tells (input_part false) text a →
    All HasGivenClaim a.drafts.steps
claims_are_given text a h = (input_is_so false text a h).1 refl

-- ---- derivations

pub derivation_is_told : (text : List ℕ) (a : DraftInput) (d : DerivationInput) →
    Tells (input_part false) text a → IsOfDrafts a d →
    Tells derivation_input text d
derivation_is_told text a d (rest, h) is = (rest, (a, h, is))

pub derivation_is_readable : (text : List ℕ) (d : DerivationInput) → Tells derivation_input text d →
    IsReadableDerivation d × (length d.left ≡ length d.steps)
derivation_is_readable text d (rest, (a, h, is)) =
    let readable = subst (λ (b : DraftInput). AreReadable b.function b.drafts) is
    (input_is_so false text a (rest, h)).0 in (
      record { function = readable.function; problem = readable.problem; steps = readable.steps },
      readable.left ∙ length-map d.steps as_draft,
    )

-- one derivation of drafts
one_derivation : (a : DraftInput) (d e : DerivationInput) → IsOfDrafts a d → IsOfDrafts a e → d ≡ e
one_derivation a d e h k =
    let same = sym h ∙ k in
    let function = ap (λ (b : DraftInput). b.function) same in
    let columns = ap (λ (b : DraftInput). b.drafts.task.names) same in
    let problem = ap (λ (b : DraftInput). b.drafts.task.problem) same in
    let lines = ap (λ (b : DraftInput). b.drafts.lines) same in
    let left = ap (λ (b : DraftInput). b.drafts.left) same in
    let steps = same_steps d.steps e.steps (ap (λ (b : DraftInput). b.drafts.steps) same) in
    λ i. record {
      function = function i;
      columns = columns i;
      lines = lines i;
      problem =
          problem i;
      steps = steps i;
      left = left i;
    }

pub derivation_input_is_exact : IsExactPart derivation_input.Reads derivation_input.Faults
derivation_input_is_exact = made_part_is_exact IsOfDrafts one_derivation (input_part false)
    (input_part_is_exact false)

-- what is made of the drafts is the derivation that is told
pub only_derivation : (text : List ℕ) (a : DraftInput) (d : DerivationInput)
    (r : Result DerivationInput ProblemFault) → Tells (input_part false) text a →
    IfOk r (IsOfDrafts a) → IfErr r IsMemoryFault → Tells derivation_input text d →
    MatchResult r (λ e. e ≡ d) IsMemoryFault
only_derivation text a d (Ok e) read is memory h =
    one_told derivation_input derivation_input_is_exact text e d
    (derivation_is_told text a e read is) h
only_derivation text a d (Err e) read is memory h = memory

-- only want of memory keeps it from being read
pub only_memory : (text : List ℕ) (d : DerivationInput) (e : ProblemFault) →
    NamesFirstFaultIn (input_part false) text e →
    Tells derivation_input text d → IsMemoryFault e
only_memory text d (Refused n e) fault (rest, (a, h, is)) =
    numbers.no_first_fault (input_part false) (input_part_is_exact false) text a rest n e h fault
only_memory text d (Memory m) fault h = tt
