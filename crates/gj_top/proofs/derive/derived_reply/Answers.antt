use Rattle.std.proofs.Common.{List, All, inl, inr, sym, ap, subst, ◌∙◌}
use Rattle.std.specs.Option.{option_copied}
use Rattle.gj_derivation.specs.Derivations.{IsReady, IsDerivation}
use Rattle.gj_derivation.specs.Drafts.{steps_of, DerivedIsDerivation}
use Rattle.gj_derivation.specs.declared.draft.Derived.TheVariants as derived
use Rattle.gj_derivation.specs.declared.draft.Draft.{Draft}
use Rattle.gj_derivation.specs.declared.draft.Shown.{Shown}
use Rattle.gj_derivation_text.specs.declared.input.DraftInput.{DraftInput}
use Rattle.gj_problem.specs.declared.problem.Problem.{Problem}
use Rattle.gj_derivation_text.specs.VerdictLines.{rejected_line}
use Rattle.gj_top.specs.Derive.{IsDerived, TellsWideDrafts, IsFilledIn, NamesLost, shown_names}
use Rattle.gj_top.proofs.DerivationReplies.{ready_drafts, derived_over, told_over, failed_within, lost_within, lost_below, names_enough}
use Rattle.gj_top.proofs.derive.derived_reply.Goals as goal

pub derived_steps-requires-clause-ready : goal.derived_steps-requires-clause-ready
derived_steps-requires-clause-ready c =
    let f = option_copied c.args.function in
    subst (All (λ (d : Draft). IsReady f d.combination)) (sym c.as_slice-steps.ensures)
    (ready_drafts f _ _ c.args.drafts.now.steps c.requires.usable
    c.requires.readable.steps.readable)

pub derived_steps-requires-clause-grid : goal.derived_steps-requires-clause-grid
derived_steps-requires-clause-grid c = c.requires.readable.grid

pub failed_text-requires-clause-within : goal.failed_text-requires-clause-within
failed_text-requires-clause-within c =
    let a : DraftInput =
    record { function = option_copied c.args.function; drafts = c.args.drafts.now } in
    let all : IsDerived a c.in_ok-shown.field-0 =
    derived_over a _ _ _ c.in_ok-problem.ensures c.as_slice-steps.ensures
    c.in_ok-shown.ensures.is in
    let failed : IsDerived a (derived.Failed c.in-Failed.failure c.in-Failed.shown) =
    rw c.in-Failed.is at all in
    failed_within a c.in-Failed.failure c.in-Failed.shown c.requires.readable failed

pub failed_text-requires-clause-lines : goal.failed_text-requires-clause-lines
failed_text-requires-clause-lines c =
    let a : DraftInput =
    record { function = option_copied c.args.function; drafts = c.args.drafts.now } in
    names_enough a c.requires.readable

pub lost_text-requires-clause-left : goal.lost_text-requires-clause-left
lost_text-requires-clause-left c =
    let a : DraftInput =
    record { function = option_copied c.args.function; drafts = c.args.drafts.now } in
    let all : IsDerived a c.in_ok-shown.field-0 =
    derived_over a _ _ _ c.in_ok-problem.ensures c.as_slice-steps.ensures
    c.in_ok-shown.ensures.is in
    let lost : IsDerived a (derived.Lost c.in-Lost.step c.in-Lost.shown) = rw c.in-Lost.is at all in
    lost_within a c.in-Lost.step c.in-Lost.shown c.requires.readable lost

pub lost_text-requires-clause-steps : goal.lost_text-requires-clause-steps
lost_text-requires-clause-steps c =
    let a : DraftInput =
    record { function = option_copied c.args.function; drafts = c.args.drafts.now } in
    let all : IsDerived a c.in_ok-shown.field-0 =
    derived_over a _ _ _ c.in_ok-problem.ensures c.as_slice-steps.ensures
    c.in_ok-shown.ensures.is in
    let lost : IsDerived a (derived.Lost c.in-Lost.step c.in-Lost.shown) = rw c.in-Lost.is at all in
    lost_below a c.in-Lost.step c.in-Lost.shown lost

pub returns-in_ok-failed_text-in-Failed : goal.returns-in_ok-failed_text-in-Failed
returns-in_ok-failed_text-in-Failed c =
    let a : DraftInput =
    record { function = option_copied c.args.function; drafts = c.args.drafts.now } in
    let all : IsDerived a c.in_ok-shown.field-0 =
    derived_over a _ _ _ c.in_ok-problem.ensures c.as_slice-steps.ensures
    c.in_ok-shown.ensures.is in
    let told : TellsWideDrafts a c.in_ok-shown.field-0 =
    told_over a _ _ c.in_ok-shown.field-0 c.in_ok-problem.ensures c.as_slice-steps.ensures
    c.in_ok-shown.ensures.narrow in
    let text = c.in_ok-failed_text-in-Failed.ensures in (
      c.requires.usable,
      inl (record {
        failure = c.in-Failed.failure;
        shown = c.in-Failed.shown;
        derived = rw c.in-Failed.is at all;
        wide = rw c.in-Failed.is at told;
        at_line = text.0;
        begins = text.1;
        spelled = text.2 ∙ ap
            (λ (xs : List Shown). rejected_line c.args.drafts.now.task.names
            (shown_names c.args.drafts.now xs) text.0
            c.in-Failed.failure.verdict) c.as_slice-in-Failed.ensures;
      }),
    )

pub returns-in_ok-lost_text-in-Lost : goal.returns-in_ok-lost_text-in-Lost
returns-in_ok-lost_text-in-Lost c =
    let a : DraftInput =
    record { function = option_copied c.args.function; drafts = c.args.drafts.now } in
    let all : IsDerived a c.in_ok-shown.field-0 =
    derived_over a _ _ _ c.in_ok-problem.ensures c.as_slice-steps.ensures
    c.in_ok-shown.ensures.is in
    let told : TellsWideDrafts a c.in_ok-shown.field-0 =
    told_over a _ _ c.in_ok-shown.field-0 c.in_ok-problem.ensures c.as_slice-steps.ensures
    c.in_ok-shown.ensures.narrow in
    let text = c.in_ok-lost_text-in-Lost.field-0.items in (
      c.requires.usable,
      inr (record {
        step = c.in-Lost.step;
        shown = c.in-Lost.shown;
        derived = rw c.in-Lost.is at all;
        wide = rw c.in-Lost.is at told;
        names = subst (λ (xs : List Shown). NamesLost c.args.input.now c.args.drafts.now
            c.in-Lost.step xs text) c.as_slice-in-Lost.ensures
            c.in_ok-lost_text-in-Lost.ensures;
      }),
    )

pub returns-in_ok-derived_text-in-All : goal.returns-in_ok-derived_text-in-All
returns-in_ok-derived_text-in-All c =
    let a : DraftInput =
    record { function = option_copied c.args.function; drafts = c.args.drafts.now } in
    let p = c.in_ok-problem.problem in
    let all : IsDerived a c.in_ok-shown.field-0 =
    derived_over a _ _ _ c.in_ok-problem.ensures c.as_slice-steps.ensures
    c.in_ok-shown.ensures.is in
    let derivation : DerivedIsDerivation (option_copied c.args.function) p c.in_ok-shown.field-0 =
    c.in_ok-shown.ensures.derivation in
    let told : TellsWideDrafts a c.in_ok-shown.field-0 =
    told_over a _ _ c.in_ok-shown.field-0 c.in_ok-problem.ensures c.as_slice-steps.ensures
    c.in_ok-shown.ensures.narrow in
    let text = c.in_ok-derived_text-in-All.field-0.items in (
      c.requires.usable,
      record {
        shown = c.in-All.shown;
        derived = rw c.in-All.is at all;
        wide = rw c.in-All.is at told;
        derivation = subst (λ (q : Problem). IsDerivation (option_copied c.args.function) q
            (steps_of c.in-All.shown)) c.in_ok-problem.ensures
            (rw c.in-All.is at derivation);
        filled_in = subst (λ (xs : List Shown). IsFilledIn a xs text) c.as_slice.ensures
            c.in_ok-derived_text-in-All.ensures;
      },
    )

pub derived_text-requires-clause-derived : goal.derived_text-requires-clause-derived
derived_text-requires-clause-derived c =
    let a : DraftInput =
    record { function = option_copied c.args.function; drafts = c.args.drafts.now } in
    let all : IsDerived a c.in_ok-shown.field-0 =
    derived_over a _ _ _ c.in_ok-problem.ensures c.as_slice-steps.ensures
    c.in_ok-shown.ensures.is in
    subst (λ (xs : List Shown). IsDerived a (derived.All xs)) (sym c.as_slice.ensures)
    (rw c.in-All.is at all)
