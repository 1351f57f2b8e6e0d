-- What the text of a derivation tells, with the function in front of it (own).
use Rattle.std.specs.Prelude.{ℕ, ◌≡◌, Bool, true, false, Option, Some, None, List, ◌-◌, drop, length, map, slice_index_or}
use Rattle.gj_forms.specs.Parts.{Part, then_part, made_part, where_part, IsFirstFaultIn}
use Rattle.gj_forms.specs.TextLines.{IsLineNumber}
use Rattle.gj_shape.specs.FunctionData.{FunctionData}
use Rattle.gj_function_text.specs.FunctionText.{function_text}
use Rattle.gj_derivation.specs.declared.draft.Claim.TheVariants.{Given}
use Rattle.gj_derivation.specs.declared.draft.Draft.{Draft}
use Rattle.gj_derivation.specs.declared.step.Step.{Step}
use Rattle.gj_problem_text.specs.SafeInputs.{BeginsAsFunction}
use Rattle.gj_problem_text.specs.declared.faults.ProblemFault.{ProblemFault}
use Rattle.gj_problem_text.specs.declared.faults.ProblemFault.TheVariants.{Refused, Memory}
use Rattle.gj_derivation_text.specs.DerivationText.{derivation_part}
use Rattle.gj_derivation_text.specs.declared.drafts.Drafts.{Drafts}
use Rattle.gj_derivation_text.specs.declared.input.DraftInput.{DraftInput}
use Rattle.gj_derivation_text.specs.declared.input.DerivationInput.{DerivationInput}

-- ---- drafts

abbrev pub with_function : Option FunctionData → Part Drafts → Part DraftInput
with_function f = made_part (λ s a. a ≡ record { function = f; drafts = s })

-- a derivation; or a function text, and a derivation behind it, told apart by the first word
abbrev pub input_part : Bool → Part DraftInput
input_part drafts =
    where_part BeginsAsFunction
    (then_part function_text (λ f. with_function (Some f) (derivation_part drafts true)))
    (with_function None (derivation_part drafts false))

-- steps that may lack claims
abbrev pub draft_input : Part DraftInput
draft_input = input_part true

-- ---- derivations

-- a step, as a draft whose claim is given
abbrev pub as_draft : Step → Draft
as_draft s = record { combination = s.combination; claim = Given s.claim }

-- the claim is given
abbrev pub HasGivenClaim : Draft → Type 0
HasGivenClaim d = (s : Step) × (d ≡ as_draft s)

abbrev pub IsOfDrafts : DraftInput → DerivationInput → Type 0
IsOfDrafts a d = a ≡ record {
  function = d.function;
  drafts = record {
    task = record (a.drafts.task) { names = d.columns; problem = d.problem };
    lines = d.lines;
    steps = map as_draft d.steps;
    left = d.left;
  };
}

-- steps that all have claims
abbrev pub derivation_input : Part DerivationInput
derivation_input = made_part IsOfDrafts (input_part false)

-- ---- what readers answer

-- the text tells this, and only lines that are skipped follow
abbrev pub Tells : {A : Type 0} → Part A → List ℕ → A → Type 0
Tells p text a = (rest : List ℕ) × p.Reads text a rest

abbrev pub IsDraftText : List ℕ → DraftInput → Type 0
IsDraftText text a = Tells draft_input text a

abbrev pub IsDerivationText : List ℕ → DerivationInput → Type 0
IsDerivationText text d = Tells derivation_input text d

-- a refusal names the line and the reason of the first fault of the text
abbrev pub NamesFirstFaultIn : {A : Type 0} → Part A → List ℕ → ProblemFault → Type 0
NamesFirstFaultIn p text (Refused n e) = IsFirstFaultIn p text n e
NamesFirstFaultIn p text (Memory a) = Unit {0}

-- the k-th step begins in the n-th line of the text; left says how many bytes are left from the line
-- of each step on
abbrev pub IsLineOfStep : List ℕ → List ℕ → ℕ → ℕ → Type 0
IsLineOfStep text left k n = IsLineNumber text (drop (length text - slice_index_or left k 0) text) n
