-- A derivation that `derive` writes is one that `check` accepts.
use Rattle.std.proofs.Common.{◌≡◌, ℕ, IfSome, List, Option, refl, sym, subst, subst₂}
use Rattle.gj_shape.specs.FunctionData.{FunctionData}
use Rattle.gj_problem.specs.declared.problem.Problem.{Problem}
use Rattle.gj_derivation.specs.declared.step.Step.{Step}
use Rattle.gj_derivation.specs.Derivations.{IsUsable}
use Rattle.gj_derivation.specs.Drafts.{steps_of}
use Rattle.gj_derivation.specs.StepLists.{IsChecked}
use Rattle.gj_derivation.proofs.NarrowSteps.{told_accepted}
use Rattle.gj_derivation_text.specs.declared.input.DerivationInput.{DerivationInput}
use Rattle.gj_derivation_text.specs.declared.input.DraftInput.{DraftInput}
use Rattle.gj_derivation_text.proofs.PrintedDerivations.{derived_is_read}
use Rattle.gj_top.specs.declared.reply.End.TheVariants as end
use Rattle.gj_top.specs.Check.Checkable.{of_steps}
use Rattle.gj_top.specs.Derive.{IsDerivedReply, derive}
use Rattle.gj_top.specs.Task.{IsReply}
use Rattle.gj_top.proofs.Accepted.{AreGoodSteps, IsGoodProof}

-- a check accepts the steps that are filled in
good_steps : (a : DraftInput) (text : List ℕ) (h : IsDerivedReply a text) →
    IfSome a.function IsUsable →
    AreGoodSteps h.filled_in.derivation
good_steps a text h sure =
    let d : DerivationInput = h.filled_in.derivation in
    let function : d.function ≡ a.function = h.filled_in.function in
    let problem : d.problem ≡ a.drafts.task.problem = h.filled_in.problem in
    let steps : d.steps ≡ steps_of h.shown = h.filled_in.text_is.steps in
    record {
      usable = subst (λ (f : Option FunctionData). IfSome f IsUsable) (sym function) sure;
      accepted = λ c checked. told_accepted a.function a.drafts.task.grid sure a.drafts.task.problem
          a.drafts.steps h.shown c h.derived h.wide
          (subst (λ (ss : List Step). IsChecked a.function a.drafts.task.problem ss c) steps
          (subst₂ (λ (f : Option FunctionData) (p : Problem). IsChecked f p d.steps c) function
          problem checked));
    }

pub derived_is_good : (input text : List ℕ) → IsReply derive input end.Done text → IsGoodProof text
derived_is_good input text r =
    let (sure, derived) = r.replied in
    let filled = derived.filled_in in
    let d = filled.derivation in
    let (left, told) = derived_is_read d _ _ derived.shown text filled.readable filled.text_is in
    let good = good_steps r.thing.told text derived sure in
    record {
      about = of_steps (record { text = text; told = record d { left = left } });
      proof = (refl, told);
      rules = record { usable = good.usable; accepted = good.accepted };
    }
