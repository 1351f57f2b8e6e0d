use Rattle.std.proofs.Common.{◌≡◌, ℕ, ◌<◌, Some, List, length, refl, sym, ap, subst, subst₂, ◌∙◌}
use Rattle.std.specs.List.{slice_get}
use Rattle.std.proofs.lemmas.Option.{slice_get_read}
use Rattle.gj_derivation.specs.declared.draft.Draft.{Draft}
use Rattle.gj_derivation.specs.declared.step.Multiplier.{Multiplier}
use Rattle.gj_derivation_text.specs.DerivationInputs.{IsLineOfStep}
use Rattle.gj_top.specs.Derive.{IsFirstLeftOut, lost_line}
use Rattle.gj_top.proofs.derive.lost_text.Goals as goal

pub returns : goal.returns
returns c =
    let at_line = c.line_of_step-at_line.result in
    let lost = c.first_left_out-lost.result in
    record {
      draft = c.index-as_slice-step.result;
      draft_is = subst (λ (steps : List Draft). slice_get steps c.args.step
          ≡ Some c.index-as_slice-step.result) c.as_slice-2.ensures
          (slice_get_read c.as_slice-2.result.now _ c.args.step c.index-as_slice-step.result refl
          (subst (λ (steps : List Draft). c.args.step < length steps)
          (sym c.as_slice-2.ensures) c.requires.steps) c.index-as_slice-step.is);
      lost = lost;
      lost_is = subst (λ (d : Draft). IsFirstLeftOut
          (length c.args.drafts.now.task.problem.constraints) c.args.shown.now
          d.combination.multipliers lost)
          (sym c.index-as_slice-step.is)
          (subst₂ (λ (n : ℕ) (multipliers : List Multiplier). IsFirstLeftOut n c.args.shown.now
          multipliers lost)
          (ap length c.as_slice-constraints.ensures) c.as_slice-3.ensures
          c.first_left_out-lost.ensures);
      at_line = at_line;
      begins = subst (λ (left : List ℕ). IsLineOfStep c.args.input.now left c.args.step at_line)
          c.as_slice.ensures c.line_of_step-at_line.ensures;
      spelled = c.in_ok-text.ensures
          ∙ ap (λ (lines : List (List ℕ)). lost_line lines at_line lost) c.as_slice-4.ensures;
    }
