-- The command `derive`: the text of a derivation whose steps may lack claims is answered with the
-- text of the derivation in which each claim is filled in (own).
use Rattle.std.specs.Prelude.{ℕ, ◌≡◌, ◌⊎◌, ◌+◌, List, [], ◌∷◌, ◌++◌, All, Option, Some, None, IfSome, codes, drop, length, take}
use Rattle.std.specs.List.{slice_get}
use Rattle.gj_forms.specs.LineForms.{Field, bytes_of}
use Rattle.gj_forms.specs.LineForms.Field.{word, count}
use Rattle.gj_forms.specs.Parts.{IsFirstFaultIn}
use Rattle.gj_problem.specs.Problems.{Holds}
use Rattle.gj_problem_text.specs.CutText.{name_at}
use Rattle.gj_derivation.specs.Derivations.{IsUsable, IsDerivation}
use Rattle.gj_derivation.specs.Drafts.{begun, IsDerivedBy, TellWide, told_by, steps_of}
use Rattle.gj_derivation.specs.declared.draft.Derived.{Derived}
use Rattle.gj_derivation.specs.declared.draft.Derived.TheVariants as derived
use Rattle.gj_derivation.specs.declared.draft.Draft.{Draft}
use Rattle.gj_derivation.specs.declared.draft.Shown.{Shown}
use Rattle.gj_derivation.specs.declared.draft.Shown.TheVariants.{Against}
use Rattle.gj_derivation.specs.declared.step.Multiplier.{Multiplier}
use Rattle.gj_derivation.specs.declared.step.Verdict.{Verdict}
use Rattle.gj_derivation.specs.declared.steps.Failure.{Failure}
use Rattle.gj_derivation_text.specs.DerivationInputs.{draft_input, IsDraftText, IsLineOfStep}
use Rattle.gj_derivation_text.specs.PrintedDerivation.{IsDerivedText, kept_names}
use Rattle.gj_derivation_text.specs.Readable.{IsReadableDerivation}
use Rattle.gj_derivation_text.specs.VerdictLines.{rejected_line}
use Rattle.gj_derivation_text.specs.declared.drafts.Drafts.{Drafts}
use Rattle.gj_derivation_text.specs.declared.input.DerivationInput.{DerivationInput}
use Rattle.gj_derivation_text.specs.declared.input.DraftInput.{DraftInput}
use Rattle.gj_top.specs.declared.reply.End.{End}
use Rattle.gj_top.specs.declared.reply.End.TheVariants.{Done, Rejected}
use Rattle.gj_top.specs.Promise.{Form, Promise}
use Rattle.gj_top.specs.Promise.Form.{reading}
use Rattle.gj_top.specs.Task.{Task}
use Rattle.gj_top.specs.Told.{Told, IsTold}
use Rattle.gj_top.specs.Derivation.{rule_in_front}
use Rattle.gj_top.specs.Forms.{NamesFault}
use Rattle.gj_top.specs.Objection.{IsObjection}

-- ---- the input

-- a text of steps that may lack claims, with the function in front of it, if there is one
abbrev pub draft_form : Form (Told DraftInput)
draft_form = reading (IsTold IsDraftText)

-- the input is none, and the text names the first line at fault
abbrev pub RefusesDrafts : List ℕ → List ℕ → Type 0
RefusesDrafts input text = NamesFault (IsFirstFaultIn draft_input input) text

-- the names of the constraints, and those of the steps
abbrev pub constraint_names : Drafts → List (List ℕ)
constraint_names s = take (length s.task.problem.constraints) s.lines

abbrev pub step_names : Drafts → List (List ℕ)
step_names s = drop (length s.task.problem.constraints) s.lines

-- those of the constraints, and of the steps that are shown
abbrev pub shown_names : Drafts → List Shown → List (List ℕ)
shown_names s shown = constraint_names s ++ kept_names (step_names s) shown

-- ---- the text

-- the text is the printed one of the steps that are shown, over the problem that is told, with the
-- function in front of it
pub record IsFilledIn (a : DraftInput) (shown : List Shown) (text : List ℕ) : Type 0 where
  pub derivation : DerivationInput
  pub function : derivation.function ≡ a.function
  pub columns : derivation.columns ≡ a.drafts.task.names
  pub problem : derivation.problem ≡ a.drafts.task.problem
  pub readable : IsReadableDerivation derivation
  pub text_is : IsDerivedText derivation (constraint_names a.drafts)
      (step_names a.drafts) shown text

-- the headline: the text is the printed one of steps over the problem that is told; they are a
-- derivation, and each claim holds at all feasible points of the problem
pub record IsTrueDerivedText (t : Told DraftInput) (text : List ℕ) : Type 0 where
  pub shown : List Shown
  pub filled_in : IsFilledIn t.told shown text
  pub derivation : IsDerivation t.told.function t.told.drafts.task.problem (steps_of shown)
  pub hold : All (λ s. Holds t.told.drafts.task.problem s.claim) (steps_of shown)

-- ---- the answer

-- this comes of the drafts
abbrev pub IsDerived : DraftInput → Derived → Type 0
IsDerived a d = IsDerivedBy a.function a.drafts.task.grid a.drafts.task.problem a.drafts.steps d

-- and `wide` is told of each draft where a number does not fit
abbrev pub TellsWideDrafts : DraftInput → Derived → Type 0
TellsWideDrafts a d =
    TellWide a.function a.drafts.task.grid (begun a.drafts.task.problem) a.drafts.steps (told_by d)

-- the text is that of the steps that the drafts show, which are a derivation
pub record IsDerivedReply (a : DraftInput) (text : List ℕ) : Type 0 where
  pub shown : List Shown
  pub wide : TellsWideDrafts a (derived.All shown)
  pub derived : IsDerived a (derived.All shown)
  pub derivation : IsDerivation a.function a.drafts.task.problem (steps_of shown)
  pub filled_in : IsFilledIn a shown text

-- the claim of a draft is given and does not follow: the text names the line of the draft, and what
-- stands against the claim; the lines are those that are shown before it
pub record IsFailedReply (t : Told DraftInput) (text : List ℕ) : Type 0 where
  pub failure : Failure
  pub shown : List Shown
  pub wide : TellsWideDrafts t.told (derived.Failed failure shown)
  pub derived : IsDerived t.told (derived.Failed failure shown)
  pub at_line : ℕ
  pub begins : IsLineOfStep t.text t.told.drafts.left failure.step at_line
  pub spelled : text ≡ rejected_line t.told.drafts.task.names
      (shown_names t.told.drafts shown) at_line failure.verdict

-- the line is that of a draft that shows nothing; so many lines are constraints
abbrev pub IsLeftOut : ℕ → List Shown → ℕ → Type 0
IsLeftOut constraints shown line =
    (k : ℕ) × (v : Verdict) × (line ≡ constraints + k) × (slice_get shown k ≡ Some (Against v))

-- the first of these lines that is left out, if there is one
abbrev pub IsFirstLeftOut : ℕ → List Shown → List Multiplier → Option ℕ → Type 0
IsFirstLeftOut constraints shown multipliers None =
    All (λ (m : Multiplier). IsLeftOut constraints shown m.line → ⊥) multipliers
IsFirstLeftOut constraints shown multipliers (Some i) =
    (before : List Multiplier) × (m : Multiplier) × (after : List Multiplier)
    × (multipliers ≡ before ++ m ∷ after)
    × All (λ (n : Multiplier). IsLeftOut constraints shown n.line → ⊥) before
    × IsLeftOut constraints shown m.line × (i ≡ m.line)

-- `lost NAME`, with the name of the line
abbrev pub lost_fields : List (List ℕ) → Option ℕ → List Field
lost_fields lines None = word (codes "lost") ∷ []
lost_fields lines (Some i) = word (codes "lost") ∷ word (name_at lines i) ∷ []

-- `rejected line N lost NAME`, where the draft begins in the N-th line
abbrev pub lost_line : List (List ℕ) → ℕ → Option ℕ → List ℕ
lost_line lines n i =
    bytes_of (word (codes "rejected") ∷ word (codes "line") ∷ count n ∷ lost_fields lines i)

-- the text names the line of the draft, and the first line of those that it names that is left out
pub record NamesLost (input : List ℕ) (s : Drafts) (step : ℕ) (shown : List Shown) (text : List ℕ) :
    Type 0 where
  pub draft : Draft
  pub draft_is : slice_get s.steps step ≡ Some draft
  pub lost : Option ℕ
  pub lost_is : IsFirstLeftOut (length s.task.problem.constraints) shown
      draft.combination.multipliers lost
  pub at_line : ℕ
  pub begins : IsLineOfStep input s.left step at_line
  pub spelled : text ≡ lost_line s.lines at_line lost

-- a draft names lines of which one is left out
pub record IsLostReply (t : Told DraftInput) (text : List ℕ) : Type 0 where
  pub step : ℕ
  pub shown : List Shown
  pub wide : TellsWideDrafts t.told (derived.Lost step shown)
  pub derived : IsDerived t.told (derived.Lost step shown)
  pub names : NamesLost t.text t.told.drafts step shown text

-- the text that is filled in, if cuts by the function in front hold, and else why it makes none
abbrev pub IsDeriveReply : Told DraftInput → End → List ℕ → Type 0
IsDeriveReply t Done text = IfSome t.told.function IsUsable × IsDerivedReply t.told text
IsDeriveReply t Rejected text =
    IfSome t.told.function IsUsable × (IsFailedReply t text ⊎ IsLostReply t text)
IsDeriveReply t end text = IsObjection (rule_in_front t.told.function) end text

abbrev pub derive_promise : Promise
derive_promise = record { Thing = Told DraftInput; form = draft_form; headline = IsTrueDerivedText }

abbrev pub derive : Task
derive = record {
  promise = derive_promise;
  work = record { refuses = RefusesDrafts; replies = IsDeriveReply };
}
