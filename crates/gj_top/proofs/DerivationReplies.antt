-- Steps that are read can be checked, and the replies to them.
use Rattle.std.proofs.Common.{◌≡◌, ℕ, ◌+◌, ◌<◌, ◌≤◌, false, true, IfSome, IsSome, List, [], ◌∷◌, ◌++◌, All, length, map, Option, None, Some, ◌⊎◌, inl, inr, refl, sym, ap, subst₂, ◌∙◌, arith, length-append}
use Rattle.std.proofs.lemmas.List.Elements.{All-nil, All-cons, All-head, All-tail}
use Rattle.gj_shape.specs.FunctionData.{FunctionData}
use Rattle.gj_proof.specs.CutRules.{MakesContinuousCuts}
use Rattle.gj_proof.specs.ProofText.{IsBoundedRule}
use Rattle.gj_derivation.specs.Derivations.{IsUsable, HasFunctionFor, IsReady, IsReadyStep}
use Rattle.gj_derivation.specs.Drafts.{begun, IsDerivedBy, TellWide, told_by}
use Rattle.gj_derivation.specs.StepLists.{IsWideFailure}
use Rattle.gj_derivation.specs.declared.draft.Derived.{Derived}
use Rattle.gj_derivation.specs.declared.draft.Derived.TheVariants as derived
use Rattle.gj_derivation.specs.declared.draft.Shown.{Shown}
use Rattle.gj_problem.specs.declared.problem.Problem.{Problem}
use Rattle.gj_derivation.specs.declared.steps.Checked.{Checked}
use Rattle.gj_derivation.specs.declared.steps.Checked.TheVariants.{Accepted, Failed}
use Rattle.gj_derivation.specs.declared.steps.Failure.{Failure}
use Rattle.gj_derivation.specs.declared.step.Verdict.TheVariants.{Wide}
use Rattle.gj_derivation.specs.declared.draft.Draft.{Draft}
use Rattle.gj_derivation.specs.declared.step.Combination.{Combination}
use Rattle.gj_derivation.specs.declared.step.Step.{Step}
use Rattle.gj_derivation.specs.declared.step.StepRule.{StepRule}
use Rattle.gj_derivation.specs.declared.step.StepRule.TheVariants.{Linear, Gmic, Function}
use Rattle.gj_derivation_text.specs.PrintedDerivation.{kept_names}
use Rattle.gj_derivation_text.specs.Readable.{IsReadable, AreReadableDrafts, AreReadable, IsReadableDerivation}
use Rattle.gj_derivation_text.specs.DerivationInputs.{as_draft}
use Rattle.gj_derivation_text.specs.declared.input.DerivationInput.{DerivationInput}
use Rattle.gj_derivation_text.specs.declared.input.DraftInput.{DraftInput}
use Rattle.gj_top.specs.declared.reply.End.{End}
use Rattle.gj_top.specs.declared.reply.End.TheVariants.{Done, Rejected}
use Rattle.gj_top.specs.Derivation.{rule_in_front, function_of, IsDerivationReply}
use Rattle.gj_top.specs.Derive.{IsDeriveReply, IsDerived, TellsWideDrafts}
use Rattle.gj_top.specs.Objection.{IsObjection}
use Rattle.gj_top.specs.Told.{Told}
use Rattle.gj_top.proofs.OneObjection.{no_objection}

-- ---- the function in front

pub same_function : (f : Option FunctionData) → function_of (rule_in_front f) ≡ f
same_function None = refl
same_function (Some f) = refl

pub usable : (f : Option FunctionData) → IsBoundedRule (rule_in_front f) →
    MakesContinuousCuts (rule_in_front f) → IfSome f IsUsable
usable None within makes = tt
usable (Some f) within makes = record { bounds = within; minimal = makes.0; continuous = makes.1 }

bounded_rule : (f : Option FunctionData) → IfSome f IsUsable → IsBoundedRule (rule_in_front f)
bounded_rule None sure = tt
bounded_rule (Some f) sure = sure.bounds

makes_cuts : (f : Option FunctionData) → IfSome f IsUsable → MakesContinuousCuts (rule_in_front f)
makes_cuts None sure = tt
makes_cuts (Some f) sure = (sure.minimal, sure.continuous)

-- there is no objection to a function by which cuts hold
pub none_against : (f : Option FunctionData) (e : End) (text : List ℕ) → IfSome f IsUsable →
    IsObjection (rule_in_front f) e text → ⊥
none_against f e text sure = no_objection (rule_in_front f) e text (bounded_rule f sure)
    (makes_cuts f sure)

has_function : (f : Option FunctionData) (r : StepRule) → IfSome f IsUsable →
    (r ≡ Function → IsSome f) → HasFunctionFor f r
has_function (Some f) r sure asked = (sure.minimal, sure.continuous)
has_function None Linear sure asked = tt
has_function None Gmic sure asked = tt
has_function None Function sure asked = let no : false ≡ true = asked refl in absurd (cc)

ready : (f : Option FunctionData) (columns lines : ℕ) (c : Combination) → IfSome f IsUsable →
    IsReadable f columns lines c → IsReady f c
ready f columns lines c sure h =
    record { factor_positive = h.factor; function = has_function f c.rule sure h.function }

pub ready_drafts : (f : Option FunctionData) (columns lines : ℕ) (drafts : List Draft) →
    IfSome f IsUsable →
    AreReadableDrafts f columns lines drafts → All (λ (d : Draft). IsReady f d.combination) drafts
ready_drafts f columns lines [] sure h = All-nil (λ (d : Draft). IsReady f d.combination)
ready_drafts f columns lines (d ∷ drafts) sure h =
    All-cons (λ (e : Draft). IsReady f e.combination) d drafts
    (ready f columns lines d.combination sure h.0.combination)
    (ready_drafts f columns (lines + 1) drafts sure h.1)

steps_of_drafts : (f : Option FunctionData) (steps : List Step) →
    All (λ (d : Draft). IsReady f d.combination) (map as_draft steps) →
    All (IsReadyStep f) steps
steps_of_drafts f [] h = All-nil (IsReadyStep f)
steps_of_drafts f (s ∷ steps) h =
    All-cons (IsReadyStep f) s steps
    (All-head (λ (d : Draft). IsReady f d.combination) (as_draft s) (map as_draft steps) h)
    (steps_of_drafts f steps
    (All-tail (λ (d : Draft). IsReady f d.combination) (as_draft s) (map as_draft steps) h))

pub ready_steps : (d : DerivationInput) → IfSome d.function IsUsable → IsReadableDerivation d →
    All (IsReadyStep d.function) d.steps
ready_steps d sure h =
    steps_of_drafts d.function d.steps
    (ready_drafts d.function _ _ (map as_draft d.steps) sure h.steps.readable)

-- ---- objections

pub checked_objection : (t : Told DerivationInput) (e : End) (text : List ℕ) →
    IsObjection (rule_in_front t.told.function) e text →
    IsDerivationReply t e text
checked_objection t Done text h = absurd h
checked_objection t Rejected text h = absurd h
checked_objection t e text h = h

pub derived_objection : (t : Told DraftInput) (e : End) (text : List ℕ) →
    IsObjection (rule_in_front t.told.function) e text →
    IsDeriveReply t e text
derived_objection t Done text h = absurd h
derived_objection t Rejected text h = absurd h
derived_objection t e text h = h

-- a derivation fails only where a number does not fit
pub wide_only : (c : Checked) (failure : Failure) → c ≡ Failed failure →
    (c ≡ Accepted) ⊎ IsWideFailure c → failure.verdict ≡ Wide
wide_only c failure is (inl accepted) =
    absurd (let no : Accepted ≡ Failed failure = sym accepted ∙ is in cc)
wide_only c failure is (inr (other, same, wide)) = let one : Failed failure ≡ Failed other = sym is
    ∙ same in cc

-- ---- what comes of drafts

-- what comes of a copy of the problem and of the drafts comes of them
pub derived_over : (a : DraftInput) (p : Problem) (steps : List Draft) (d : Derived) →
    p ≡ a.drafts.task.problem → steps ≡ a.drafts.steps →
    IsDerivedBy a.function a.drafts.task.grid p steps d → IsDerived a d
derived_over a p steps d problem same h =
    subst₂ (λ (q : Problem) (drafts : List Draft). IsDerivedBy a.function a.drafts.task.grid q
    drafts d) problem same h

pub told_over : (a : DraftInput) (p : Problem) (steps : List Draft) (d : Derived) →
    p ≡ a.drafts.task.problem → steps ≡ a.drafts.steps →
    TellWide a.function a.drafts.task.grid (begun p) steps (told_by d) → TellsWideDrafts a d
told_over a p steps d problem same h =
    subst₂ (λ (q : Problem) (drafts : List Draft). TellWide a.function a.drafts.task.grid
    (begun q) drafts (told_by d)) problem same h

-- ---- places

-- what stands behind so many others has this place
pub place_within : {A : Type 0} (xs before after : List A) (x : A) (i : ℕ) →
    xs ≡ before ++ x ∷ after → i ≡ length before → i < length xs
place_within xs before after x i is at =
    omega (arith, at, ap length is, length-append before (x ∷ after))

-- a draft that fails has a place
failed_below : (a : DraftInput) (failure : Failure) (shown : List Shown) →
    IsDerived a (derived.Failed failure shown) →
    failure.step < length a.drafts.steps
failed_below a failure shown (r, d, reached, next, ends) =
    place_within a.drafts.steps reached.before reached.after d failure.step reached.place
    reached.index

pub lost_below : (a : DraftInput) (i : ℕ) (shown : List Shown) →
    IsDerived a (derived.Lost i shown) → i < length a.drafts.steps
lost_below a i shown (r, d, reached, lost) =
    place_within a.drafts.steps reached.before reached.after d i reached.place reached.index

-- and a line
line_below : (a : DraftInput) (i : ℕ) → AreReadable a.function a.drafts →
    i < length a.drafts.steps → i < length a.drafts.left
line_below a i readable below = omega (arith, readable.left, below)

pub failed_within : (a : DraftInput) (failure : Failure) (shown : List Shown) →
    AreReadable a.function a.drafts →
    IsDerived a (derived.Failed failure shown) → failure.step < length a.drafts.left
failed_within a failure shown readable h =
    line_below a failure.step readable (failed_below a failure shown h)

pub lost_within : (a : DraftInput) (i : ℕ) (shown : List Shown) → AreReadable a.function a.drafts →
    IsDerived a (derived.Lost i shown) →
    i < length a.drafts.left
lost_within a i shown readable h = line_below a i readable (lost_below a i shown h)

-- there are names for the constraints
pub names_enough : (a : DraftInput) → AreReadable a.function a.drafts →
    length a.drafts.task.problem.constraints ≤ length a.drafts.lines
names_enough a readable = let count = readable.steps.count in omega arith

-- ---- names

-- without names, or with no more that is shown, none is kept
pub none_kept : (names : List (List ℕ)) (shown : List Shown) → (names ≡ []) ⊎ (shown ≡ []) →
    kept_names names shown ≡ []
none_kept [] [] h = refl
none_kept [] (x ∷ shown) h = refl
none_kept (name ∷ names) [] h = refl
none_kept (name ∷ names) (x ∷ shown) (inl e) = absurd (cc)
none_kept (name ∷ names) (x ∷ shown) (inr e) = absurd (cc)
