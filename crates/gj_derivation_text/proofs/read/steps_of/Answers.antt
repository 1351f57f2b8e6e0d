use Rattle.std.proofs.Common.{◌≡◌, List, [], ◌++◌, map, length, append-nil, sym, ap, ◌∙◌, arith}
use Rattle.std.proofs.lemmas.List.{nil_from_length}
use Rattle.gj_derivation.specs.declared.draft.Draft.{Draft}
use Rattle.gj_derivation.specs.declared.step.Step.{Step}
use Rattle.gj_derivation_text.specs.DerivationInputs.{as_draft}
use Rattle.gj_derivation_text.proofs.GivenClaims.{claim_at, one_more}
use Rattle.gj_derivation_text.proofs.read.steps_of.Goals as goal

pub loop-draft-init : goal.loop-draft-init
loop-draft-init c =
    let none : map as_draft c.in_ok-steps.steps.items ≡ [] =
    ap (λ (steps : List Step). map as_draft steps) c.in_ok-steps.ensures.items in
    let rest = c.into_iter-draft-iterator.ensures.into_iter_gives.0 ∙ c.into_vec-drafts.ensures in
    sym rest ∙ ap (λ (front : List Draft). front ++ c.into_iter-draft-iterator.result.rest.items)
    (sym none)

pub step_of-requires : goal.step_of-requires
step_of-requires c =
    claim_at c.args.drafts c.loop-draft.steps.items _ c.in-Some.draft c.next.new.self.rest.items
    c.loop-draft.invariant
    c.in-Some.ensures.steps.0 c.requires

pub loop-draft-preserved : goal.loop-draft-preserved
loop-draft-preserved c =
    one_more c.args.drafts c.loop-draft.steps.items _ c.in-Some.draft c.next.new.self.rest.items
    c.loop-draft.invariant
    c.in-Some.ensures.steps.0 _ _ c.step_of.ensures c.in_ok-push.ensures.items

pub returns : goal.returns
returns c =
    let none : c.loop-draft.draft-iterator.rest.items ≡ [] =
    nil_from_length c.loop-draft.draft-iterator.rest.items
    (omega (arith, c.in-None.ensures.steps.0)) in
    c.loop-draft.invariant
    ∙ ap (λ (rest : List Draft). map as_draft c.loop-draft.steps.items ++ rest) none
    ∙ append-nil (map as_draft c.loop-draft.steps.items)
    ∙ ap (λ (steps : List Step). map as_draft steps) (sym c.of.ensures)
