use Rattle.std.proofs.Common.{◌≡◌, ◌++◌, ℕ, ◌<◌, IfSome, List, All, Option, length, sym, ap, ap₂, subst, subst₂, ◌∙◌}
use Rattle.std.specs.Option.{option_copied}
use Rattle.gj_shape.specs.FunctionData.{FunctionData}
use Rattle.gj_derivation.specs.Derivations.{IsUsable, IsReadyStep, IsDerivation}
use Rattle.gj_derivation.specs.StepLists.{IsFailure, IsChecked, TellsWide}
use Rattle.gj_derivation.specs.declared.step.Step.{Step}
use Rattle.gj_derivation.specs.declared.steps.Checked.TheVariants.{Accepted, Failed}
use Rattle.gj_derivation_text.specs.DerivationInputs.{IsLineOfStep}
use Rattle.gj_derivation_text.specs.VerdictLines.{accepted_line, rejected_line}
use Rattle.gj_proof.specs.CutRules.{MakesContinuousCuts}
use Rattle.gj_proof.specs.ProofText.{IsBoundedRule}
use Rattle.gj_top.specs.Derivation.{function_of}
use Rattle.gj_top.proofs.DerivationReplies.{same_function, usable, ready_steps, checked_objection, place_within, wide_only}
use Rattle.gj_top.proofs.derivation.derivation_reply.Goals as goal

pub returns-in-Some : goal.returns-in-Some
returns-in-Some c =
    let objection = c.in-Some.objection in
    checked_objection (record { text = c.args.input.now; told = c.args.derivation }) objection.end
    objection.text.items
    (rw c.rule_in_front-rule.ensures at (rw c.in-Some.is at c.in_ok-objection.ensures.some))

pub check_steps-requires : goal.check_steps-requires
check_steps-requires c =
    let f = c.args.derivation.function in
    let makes : MakesContinuousCuts c.rule_in_front-rule.result =
    rw c.in_default.is at c.in_ok-objection.ensures.none in
    let bounded : IsBoundedRule c.rule_in_front-rule.result =
    rw c.in_default.is at c.in_ok-objection.ensures.bounded in
    let is = c.rule_in_front-rule.ensures in
    let sure : IfSome f IsUsable =
    usable f (subst IsBoundedRule is bounded) (subst MakesContinuousCuts is makes) in
    let same : option_copied c.function_in.result ≡ f = c.function_in.ensures ∙ ap function_of is
    ∙ same_function f in
    subst₂ (λ (g : Option FunctionData) (steps : List Step). All (IsReadyStep g) steps) (sym same)
    (sym c.as_slice.ensures)
    (ready_steps c.args.derivation sure c.requires.readable)

pub returns-in-Accepted : goal.returns-in-Accepted
returns-in-Accepted c =
    let f = c.args.derivation.function in
    let makes : MakesContinuousCuts c.rule_in_front-rule.result =
    rw c.in_default.is at c.in_ok-objection.ensures.none in
    let bounded : IsBoundedRule c.rule_in_front-rule.result =
    rw c.in_default.is at c.in_ok-objection.ensures.bounded in
    let is = c.rule_in_front-rule.ensures in
    let same : option_copied c.function_in.result ≡ f = c.function_in.ensures ∙ ap function_of is
    ∙ same_function f in
    let checked : IsChecked (option_copied c.function_in.result) c.args.derivation.problem
    c.as_slice.result.now c.in_ok-check_steps.field-0 =
    c.in_ok-check_steps.ensures.is in
    let told : TellsWide (option_copied c.function_in.result) c.args.derivation.problem
    c.as_slice.result.now c.in_ok-check_steps.field-0 =
    c.in_ok-check_steps.ensures.narrow in (
      usable f (subst IsBoundedRule is bounded) (subst MakesContinuousCuts is makes),
      record {
        derivation = subst₂ (λ (g : Option FunctionData) (steps : List Step). IsDerivation g
            c.args.derivation.problem steps) same c.as_slice.ensures
            (rw c.in-Accepted.is at checked);
        wide = subst₂ (λ (g : Option FunctionData) (steps : List Step). TellsWide g
            c.args.derivation.problem steps Accepted) same c.as_slice.ensures
            (rw c.in-Accepted.is at told);
        spelled = c.in_ok-push_accepted-in-Accepted.ensures
            ∙ ap (λ (xs : List ℕ). xs ++ accepted_line) c.new-text.ensures.items;
      },
    )

pub line_of_step-at_line-requires : goal.line_of_step-at_line-requires
line_of_step-at_line-requires c =
    let checked : IsChecked (option_copied c.function_in.result) c.args.derivation.problem
    c.as_slice.result.now c.in_ok-check_steps.field-0 =
    c.in_ok-check_steps.ensures.is in
    let failure = c.in-Failed.failure in
    let first : IsFailure (option_copied c.function_in.result) c.args.derivation.problem
    c.as_slice.result.now failure = rw c.in-Failed.is at checked in
    let below : failure.step < length c.as_slice.result.now =
    place_within c.as_slice.result.now first.before first.after first.step failure.step
    first.place first.index in
    subst (λ (n : ℕ). failure.step < n) (ap length c.as_slice.ensures ∙ sym c.requires.left
    ∙ ap length (sym c.as_slice-in-Failed.ensures)) below

pub returns : goal.returns
returns c =
    let f = c.args.derivation.function in
    let makes : MakesContinuousCuts c.rule_in_front-rule.result =
    rw c.in_default.is at c.in_ok-objection.ensures.none in
    let bounded : IsBoundedRule c.rule_in_front-rule.result =
    rw c.in_default.is at c.in_ok-objection.ensures.bounded in
    let is = c.rule_in_front-rule.ensures in
    let same : option_copied c.function_in.result ≡ f = c.function_in.ensures ∙ ap function_of is
    ∙ same_function f in
    let p = c.args.derivation.problem in
    let checked : IsChecked (option_copied c.function_in.result) p c.as_slice.result.now
    c.in_ok-check_steps.field-0 = c.in_ok-check_steps.ensures.is in
    let told : TellsWide (option_copied c.function_in.result) p c.as_slice.result.now
    c.in_ok-check_steps.field-0 =
    c.in_ok-check_steps.ensures.narrow in
    let failure = c.in-Failed.failure in (
      usable f (subst IsBoundedRule is bounded) (subst MakesContinuousCuts is makes),
      record {
        failure = failure;
        first = subst₂ (λ (g : Option FunctionData) (steps : List Step). IsFailure g p steps
            failure) same c.as_slice.ensures (rw c.in-Failed.is at checked);
        narrow = λ derivation. wide_only c.in_ok-check_steps.field-0 failure c.in-Failed.is
            (c.in_ok-check_steps.ensures.exact
            (subst₂ (λ (g : Option FunctionData) (steps : List Step). IsDerivation g p steps)
            (sym same) (sym c.as_slice.ensures) derivation));
        wide = subst₂ (λ (g : Option FunctionData) (steps : List Step). TellsWide g p steps
            (Failed failure)) same c.as_slice.ensures
            (rw c.in-Failed.is at told);
        at_line = c.line_of_step-at_line.result;
        begins = subst (λ (left : List ℕ). IsLineOfStep c.args.input.now left failure.step
            c.line_of_step-at_line.result)
            c.as_slice-in-Failed.ensures c.line_of_step-at_line.ensures;
        spelled = c.in_ok-push_rejected-in-Failed.ensures
            ∙ ap (λ (xs : List ℕ). xs ++ rejected_line c.as_slice-columns.result.now
            c.as_slice-in-Failed-2.result.now c.line_of_step-at_line.result
            failure.verdict) c.new-text.ensures.items
            ∙ ap₂ (λ (columns lines : List (List ℕ)). rejected_line columns lines
            c.line_of_step-at_line.result failure.verdict)
            c.as_slice-columns.ensures c.as_slice-in-Failed-2.ensures;
      },
    )
