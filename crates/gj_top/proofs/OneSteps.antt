-- Steps have one reply of `check`, and one of `derive`.
use Rattle.std.proofs.Common.{◌≡◌, ◌⊎◌, ⊎_elim, inl, inr, ℕ, IfSome, List, [], ◌∷◌, ◌++◌, All, length, codes, Option, None, Some, refl, sym, ap, ap₂, subst, subst₂, ◌∙◌, arith}
use Rattle.std.proofs.lemmas.List.Elements.{All-nil, All-cons, All-head}
use Rattle.gj_lemmas.proofs.Lists.{All-back}
use Rattle.gj_shape.specs.FunctionData.{FunctionData, IsWithinBounds}
use Rattle.gj_function_lines.specs.FunctionLines.{line}
use Rattle.gj_problem.specs.declared.problem.Problem.{Problem}
use Rattle.gj_problem.proofs.Failing.{elsewhere}
use Rattle.gj_proof.specs.ProofText.{IsBoundedRule}
use Rattle.gj_derivation.specs.Derivations.{IsUsable, IsUsableFor}
use Rattle.gj_derivation.specs.StepLists.{IsChecked, TellsWide}
use Rattle.gj_derivation.specs.declared.draft.Derived.{Derived}
use Rattle.gj_derivation.specs.declared.draft.Derived.TheVariants as derived
use Rattle.gj_derivation.specs.declared.draft.Draft.{Draft}
use Rattle.gj_derivation.specs.declared.draft.Shown.{Shown}
use Rattle.gj_derivation.specs.declared.step.Multiplier.{Multiplier}
use Rattle.gj_derivation.specs.declared.step.Step.{Step}
use Rattle.gj_derivation.specs.declared.steps.Checked.{Checked}
use Rattle.gj_derivation.specs.declared.steps.Checked.TheVariants as checked
use Rattle.gj_derivation.specs.declared.steps.Failure.{Failure}
use Rattle.gj_derivation.proofs.CheckedDerivations.{one_check}
use Rattle.gj_derivation.proofs.OneBase.{usable_from}
use Rattle.gj_derivation.proofs.OneDerivation.{one_derivation}
use Rattle.gj_problem_text.specs.PrintedProblem.{problem_lines}
use Rattle.gj_derivation_text.specs.DerivationInputs.{IsLineOfStep}
use Rattle.gj_derivation_text.specs.PrintedDerivation.{HasFunctionText, IsFront, steps_text}
use Rattle.gj_derivation_text.specs.VerdictLines.{rejected_line}
use Rattle.gj_derivation_text.specs.declared.drafts.Drafts.{Drafts}
use Rattle.gj_derivation_text.specs.declared.input.DerivationInput.{DerivationInput}
use Rattle.gj_derivation_text.specs.declared.input.DraftInput.{DraftInput}
use Rattle.gj_top.specs.declared.reply.End.{End}
use Rattle.gj_top.specs.declared.reply.End.TheVariants.{Done, Rejected}
use Rattle.gj_top.specs.Derivation.{rule_in_front, IsAcceptedDerivation, IsRejectedDerivation, IsDerivationReply}
use Rattle.gj_top.specs.Derive.{constraint_names, step_names, shown_names, IsFilledIn, IsDerived, TellsWideDrafts, IsDerivedReply, IsFailedReply, IsLeftOut, IsFirstLeftOut, lost_line, NamesLost, IsLostReply, IsDeriveReply}
use Rattle.gj_top.specs.Told.{Told}
use Rattle.gj_top.proofs.DerivationReplies.{none_against}
use Rattle.gj_top.proofs.OneObjection.{one_objection}
use Rattle.gj_top.proofs.TextLaws.{one_canonical}

-- ---- lines, and the function in front

-- a step begins in one line
one_line : (text left : List ℕ) (k n m : ℕ) → IsLineOfStep text left k n →
    IsLineOfStep text left k m → n ≡ m
one_line text left k n m h l = omega (arith, h, l)

-- a function within the limits makes a bounded rule
pub bounded : (f : Option FunctionData) → IfSome f IsWithinBounds → IsBoundedRule (rule_in_front f)
bounded None within = tt
bounded (Some f) within = within

usable_steps : (f : Option FunctionData) (steps : List Step) → IfSome f IsUsable →
    All (λ (s : Step). IsUsableFor f s.combination.rule) steps
usable_steps f [] sure = All-nil (λ (s : Step). IsUsableFor f s.combination.rule)
usable_steps f (s ∷ steps) sure =
    All-cons (λ (s : Step). IsUsableFor f s.combination.rule) s steps
    (usable_from f s.combination.rule sure) (usable_steps f steps sure)

usable_drafts : (f : Option FunctionData) (drafts : List Draft) → IfSome f IsUsable →
    All (λ (d : Draft). IsUsableFor f d.combination.rule) drafts
usable_drafts f [] sure = All-nil (λ (d : Draft). IsUsableFor f d.combination.rule)
usable_drafts f (d ∷ drafts) sure =
    All-cons (λ (e : Draft). IsUsableFor f e.combination.rule) d drafts
    (usable_from f d.combination.rule sure) (usable_drafts f drafts sure)

-- ---- check

module _ (t : Told DerivationInput) where
  one_checked : (c d : Checked) → IfSome t.told.function IsUsable →
      IsChecked t.told.function t.told.problem t.told.steps c →
      IsChecked t.told.function t.told.problem t.told.steps d →
      TellsWide t.told.function t.told.problem t.told.steps c →
      TellsWide t.told.function t.told.problem t.told.steps d → c ≡ d
  one_checked c d sure h k h_wide k_wide =
      one_check t.told.function t.told.problem t.told.steps c d
      (usable_steps t.told.function t.told.steps sure) h k h_wide k_wide

  accepted_or_rejected : (x y : List ℕ) → IfSome t.told.function IsUsable →
      IsAcceptedDerivation t x → IsRejectedDerivation t y → ⊥
  accepted_or_rejected x y sure h k =
      let same = one_checked checked.Accepted (checked.Failed k.failure) sure h.derivation k.first
      h.wide k.wide in
      absurd (cc)

  one_rejection : (x y : List ℕ) → IfSome t.told.function IsUsable → IsRejectedDerivation t x →
      IsRejectedDerivation t y → x ≡ y
  one_rejection x y sure h k =
      let failed = one_checked (checked.Failed h.failure) (checked.Failed k.failure) sure h.first
      k.first h.wide k.wide in
      let same : h.failure ≡ k.failure = cc in
      let number : h.at_line ≡ k.at_line =
      one_line t.text t.told.left k.failure.step h.at_line k.at_line
      (subst (λ (a : Failure). IsLineOfStep t.text t.told.left a.step h.at_line) same h.begins)
      k.begins in
      h.spelled ∙ ap₂ (λ (n : ℕ) (a : Failure). rejected_line t.told.columns t.told.lines n
      a.verdict) number same ∙ sym k.spelled

  module _ (within : IfSome t.told.function IsWithinBounds) where
    pub one_check_reply : (e d : End) (x y : List ℕ) → IsDerivationReply t e x →
        IsDerivationReply t d y → (e ≡ d) × (x ≡ y)
    one_check_reply Done Done x y h k = (refl, h.1.spelled ∙ sym k.1.spelled)
    one_check_reply Done Rejected x y h k = absurd (accepted_or_rejected x y h.0 h.1 k.1)
    one_check_reply Rejected Done x y h k = absurd (accepted_or_rejected y x k.0 k.1 h.1)
    one_check_reply Rejected Rejected x y h k = (refl, one_rejection x y h.0 h.1 k.1)
    one_check_reply Done d x y h k = absurd (none_against t.told.function d y h.0 k)
    one_check_reply Rejected d x y h k = absurd (none_against t.told.function d y h.0 k)
    one_check_reply e Done x y h k = absurd (none_against t.told.function e x k.0 h)
    one_check_reply e Rejected x y h k = absurd (none_against t.told.function e x k.0 h)
    one_check_reply e d x y h k = one_objection (rule_in_front t.told.function) e d x y
        (bounded t.told.function within) h k

-- ---- the text that `derive` writes

one_function_text : (f : Option FunctionData) (x y : List ℕ) → IfSome f IsUsable →
    HasFunctionText f x → HasFunctionText f y → x ≡ y
one_function_text None x y sure h k = h ∙ sym k
one_function_text (Some f) x y sure h k = one_canonical f x y sure.bounds h k

one_front : (f : Option FunctionData) (columns constraints : List (List ℕ)) (p : Problem)
    (x y : List ℕ) → IfSome f IsUsable →
    IsFront f columns constraints p x → IsFront f columns constraints p y → x ≡ y
one_front f columns constraints p x y sure (u, h, x_is) (v, k, y_is) =
    x_is ∙ ap (λ (text : List ℕ). text
    ++ (line (codes "gj-derivation 1") ++ problem_lines columns constraints p))
    (one_function_text f u v sure h k)
    ∙ sym y_is

module _ (a : DraftInput) where
  -- the front, and the steps behind it
  abbrev IsPrinted : List Shown → List ℕ → Type 0
  IsPrinted xs text =
      (front : List ℕ) × IsFront a.function a.drafts.task.names
      (constraint_names a.drafts) a.drafts.task.problem front
      × (text ≡ front ++ steps_text a.drafts.task.names (constraint_names a.drafts)
      (step_names a.drafts) xs)

  printed : (xs : List Shown) (text : List ℕ) → IsFilledIn a xs text → IsPrinted xs text
  printed xs text h =
      let d = h.derivation in
      let constraints = constraint_names a.drafts in
      let front = h.text_is.front in
      let over_problem = subst (λ (p : Problem). IsFront d.function d.columns constraints p front)
      h.problem h.text_is.front_is in (
        front,
        subst₂ (λ (f : Option FunctionData) (columns : List (List ℕ)). IsFront f columns constraints
            a.drafts.task.problem front)
            h.function h.columns over_problem,
        h.text_is.text_is ∙ ap
            (λ (columns : List (List ℕ)). front ++ steps_text columns constraints
            (step_names a.drafts) xs) h.columns,
      )

  one_filled_in : (xs : List Shown) (x y : List ℕ) → IfSome a.function IsUsable →
      IsFilledIn a xs x → IsFilledIn a xs y → x ≡ y
  one_filled_in xs x y sure h k =
      let (first, is, x_is) = printed xs x h in
      let (second, is', y_is) = printed xs y k in
      x_is
      ∙ ap (λ (front : List ℕ). front ++ steps_text a.drafts.task.names (constraint_names a.drafts)
      (step_names a.drafts) xs)
      (one_front a.function a.drafts.task.names (constraint_names a.drafts) a.drafts.task.problem
      first second sure is is')
      ∙ sym y_is

-- ---- lines that are left out

module _ (constraints : ℕ) (shown : List Shown) where
  abbrev IsKept : Multiplier → Type 0
  IsKept m = IsLeftOut constraints shown m.line → ⊥

  none_among : (ms before : List Multiplier) (m : Multiplier) (after : List Multiplier) →
      ms ≡ before ++ m ∷ after → All IsKept ms →
      IsLeftOut constraints shown m.line → ⊥
  none_among ms before m after place kept =
      All-head IsKept m after (All-back IsKept before (m ∷ after) (subst (All IsKept) place kept))

  one_left_out : (ms : List Multiplier) (i j : Option ℕ) → IsFirstLeftOut constraints shown ms i →
      IsFirstLeftOut constraints shown ms j → i ≡ j
  one_left_out ms None None h k = refl
  one_left_out ms None (Some j) h (before, m, after, place, kept, left, is) =
      absurd (none_among ms before m after place h left)
  one_left_out ms (Some i) None (before, m, after, place, kept, left, is) k =
      absurd (none_among ms before m after place k left)
  one_left_out ms (Some i) (Some j) (front, m, back, m_place, m_kept, m_left, m_is)
      (before, n, after, n_place, n_kept, n_left, n_is) =
      ⊎_elim
      (λ (h : (rest : List Multiplier) × (front ≡ before ++ n ∷ rest)). absurd
      (none_among front before n h.0 h.1 m_kept n_left))
      (⊎_elim
      (λ (h : (before ≡ front) × (n ≡ m)). ap Some (m_is ∙ ap (λ (k : Multiplier). k.line) (sym h.1)
      ∙ sym n_is))
      (λ (h : (rest : List Multiplier) × (before ≡ front ++ m ∷ rest)). absurd
      (none_among before front m h.0 h.1 n_kept m_left)))
      (elsewhere front before back after m n (sym m_place ∙ n_place))

one_lost_text : (input : List ℕ) (s : Drafts) (step : ℕ) (shown : List Shown) (x y : List ℕ) →
    NamesLost input s step shown x →
    NamesLost input s step shown y → x ≡ y
one_lost_text input s step shown x y h k =
    let drafts = sym h.draft_is ∙ k.draft_is in
    let same : h.draft ≡ k.draft = cc in
    let constraints = length s.task.problem.constraints in
    let lost : h.lost ≡ k.lost =
    one_left_out constraints shown k.draft.combination.multipliers h.lost k.lost
    (subst (λ (d : Draft). IsFirstLeftOut constraints shown d.combination.multipliers h.lost) same
    h.lost_is) k.lost_is in
    h.spelled ∙ ap₂ (λ (n : ℕ) (i : Option ℕ). lost_line s.lines n i)
    (one_line input s.left step h.at_line k.at_line h.begins k.begins) lost
    ∙ sym k.spelled

-- ---- derive

module _ (t : Told DraftInput) where
  one_derived : (d e : Derived) → IfSome t.told.function IsUsable → IsDerived t.told d →
      IsDerived t.told e → TellsWideDrafts t.told d →
      TellsWideDrafts t.told e → d ≡ e
  one_derived d e sure h k h_wide k_wide =
      one_derivation t.told.function t.told.drafts.task.grid t.told.drafts.task.problem
      t.told.drafts.steps d e
      (usable_drafts t.told.function t.told.drafts.steps sure) h k h_wide k_wide

  abbrev IsEnded : List ℕ → Type 0
  IsEnded text = IsFailedReply t text ⊎ IsLostReply t text

  derived_or_ended : (x y : List ℕ) → IfSome t.told.function IsUsable → IsDerivedReply t.told x →
      IsEnded y → ⊥
  derived_or_ended x y sure h (inl k) =
      let same = one_derived (derived.All h.shown) (derived.Failed k.failure k.shown) sure h.derived
      k.derived h.wide k.wide in
      absurd (cc)
  derived_or_ended x y sure h (inr k) =
      let same = one_derived (derived.All h.shown) (derived.Lost k.step k.shown) sure h.derived
      k.derived h.wide k.wide in
      absurd (cc)

  failed_or_lost : (x y : List ℕ) → IfSome t.told.function IsUsable → IsFailedReply t x →
      IsLostReply t y → ⊥
  failed_or_lost x y sure h k =
      let same = one_derived (derived.Failed h.failure h.shown)
      (derived.Lost k.step k.shown) sure h.derived k.derived h.wide k.wide in
      absurd (cc)

  one_filling : (x y : List ℕ) → IfSome t.told.function IsUsable → IsDerivedReply t.told x →
      IsDerivedReply t.told y → x ≡ y
  one_filling x y sure h k =
      let all = one_derived (derived.All h.shown) (derived.All k.shown) sure h.derived k.derived
      h.wide k.wide in
      let same : h.shown ≡ k.shown = cc in
      one_filled_in t.told k.shown x y sure
      (subst (λ (xs : List Shown). IsFilledIn t.told xs x) same h.filled_in) k.filled_in

  one_failing : (x y : List ℕ) → IfSome t.told.function IsUsable → IsFailedReply t x →
      IsFailedReply t y → x ≡ y
  one_failing x y sure h k =
      let failed = one_derived (derived.Failed h.failure h.shown)
      (derived.Failed k.failure k.shown) sure h.derived k.derived h.wide k.wide in
      let failure : h.failure ≡ k.failure = cc in
      let shown : h.shown ≡ k.shown = cc in
      let drafts = t.told.drafts in
      let number : h.at_line ≡ k.at_line =
      one_line t.text drafts.left k.failure.step h.at_line k.at_line
      (subst (λ (a : Failure). IsLineOfStep t.text drafts.left a.step h.at_line) failure h.begins)
      k.begins in
      h.spelled
      ∙ ap₂ (λ (n : ℕ) (a : Failure). rejected_line drafts.task.names
      (shown_names drafts h.shown) n a.verdict) number failure
      ∙ ap (λ (xs : List Shown). rejected_line drafts.task.names
      (shown_names drafts xs) k.at_line k.failure.verdict) shown
      ∙ sym k.spelled

  one_losing : (x y : List ℕ) → IfSome t.told.function IsUsable → IsLostReply t x →
      IsLostReply t y → x ≡ y
  one_losing x y sure h k =
      let lost = one_derived (derived.Lost h.step h.shown)
      (derived.Lost k.step k.shown) sure h.derived k.derived h.wide k.wide in
      let step : h.step ≡ k.step = cc in
      let shown : h.shown ≡ k.shown = cc in
      one_lost_text t.text t.told.drafts k.step k.shown x y
      (subst₂ (λ (i : ℕ) (xs : List Shown). NamesLost t.text t.told.drafts i xs x) step shown
      h.names) k.names

  one_ending : (x y : List ℕ) → IfSome t.told.function IsUsable → IsEnded x → IsEnded y → x ≡ y
  one_ending x y sure (inl h) (inl k) = one_failing x y sure h k
  one_ending x y sure (inl h) (inr k) = absurd (failed_or_lost x y sure h k)
  one_ending x y sure (inr h) (inl k) = absurd (failed_or_lost y x sure k h)
  one_ending x y sure (inr h) (inr k) = one_losing x y sure h k

  module _ (within : IfSome t.told.function IsWithinBounds) where
    pub one_derive_reply : (e d : End) (x y : List ℕ) → IsDeriveReply t e x → IsDeriveReply t d y →
        (e ≡ d) × (x ≡ y)
    one_derive_reply Done Done x y h k = (refl, one_filling x y h.0 h.1 k.1)
    one_derive_reply Done Rejected x y h k = absurd (derived_or_ended x y h.0 h.1 k.1)
    one_derive_reply Rejected Done x y h k = absurd (derived_or_ended y x k.0 k.1 h.1)
    one_derive_reply Rejected Rejected x y h k = (refl, one_ending x y h.0 h.1 k.1)
    one_derive_reply Done d x y h k = absurd (none_against t.told.function d y h.0 k)
    one_derive_reply Rejected d x y h k = absurd (none_against t.told.function d y h.0 k)
    one_derive_reply e Done x y h k = absurd (none_against t.told.function e x k.0 h)
    one_derive_reply e Rejected x y h k = absurd (none_against t.told.function e x k.0 h)
    one_derive_reply e d x y h k = one_objection (rule_in_front t.told.function) e d x y
        (bounded t.told.function within) h k
