use Rattle.std.proofs.Common.{Bool, refl, ap, ◌∙◌}
use Rattle.std.proofs.lemmas.Bool.{false≢true}
use Rattle.std.proofs.lemmas.Result.{err_from_is_err_and}
use Rattle.gj_forms.specs.Parts.{loop_part, IsFaultOf}
use Rattle.gj_forms.proofs.PartLaws.{passed_on}
use Rattle.gj_derivation_text.specs.DerivationText.{names_of, next_step}
use Rattle.gj_derivation_text.specs.declared.names.Names.{Names}
use Rattle.gj_derivation_text.proofs.StepsRead.{steps_on, fault_in_step, steps_end_here, fault_at_end}
use Rattle.gj_derivation_text.proofs.steps.steps_at.Goals as goal

pub returns-in_err-rest-clause-fault : goal.returns-in_err-rest-clause-fault
returns-in_err-rest-clause-fault c =
    let drafts = c.args.names.now.drafts in
    let p = err_from_is_err_and c.from_residual.result c.from_residual.ensures.1 in
    passed_on (IsFaultOf (loop_part (next_step drafts c.args.has_function) c.args.drafts.now)
    c.args.text.now) _ _ _ p.1 p.2
    (fault_in_step drafts c.args.has_function _ c.args.drafts.now c.args.text.now _ _
    (ap (λ (m : Names). m.drafts) c.loop-alloc.invariant.names) c.loop-alloc.invariant.leads _
    (λ is. false≢true (c.loop-alloc-test.ensures.1 is)) c.in_err-rest.ensures.fault)

pub loop-alloc-preserved : goal.loop-alloc-preserved
loop-alloc-preserved c =
    let drafts = c.args.names.now.drafts in
    let flag = ap (λ (m : Names). m.drafts) c.loop-alloc.invariant.names in record {
      few = c.in_ok-rest.ensures.few;
      names = c.in_ok-rest.ensures.names ∙ ap (λ (b : Bool). names_of b c.step_at.new.drafts) flag;
      leads = steps_on drafts c.args.has_function _ c.args.drafts.now c.args.text.now _ _ flag
          c.loop-alloc.invariant.leads _ _
          (λ is. false≢true (c.loop-alloc-test.ensures.1 is)) c.in_ok-rest.ensures.found;
    }

pub returns-in_err-rest-2-clause-fault : goal.returns-in_err-rest-2-clause-fault
returns-in_err-rest-2-clause-fault c =
    let drafts = c.args.names.now.drafts in
    let p = err_from_is_err_and c.from_residual-in_err-rest-2.result
    c.from_residual-in_err-rest-2.ensures.1 in
    passed_on (IsFaultOf (loop_part (next_step drafts c.args.has_function) c.args.drafts.now)
    c.args.text.now) _ _ _ p.1 p.2
    (fault_at_end drafts c.args.has_function _ c.args.drafts.now c.args.text.now _ _
    (ap (λ (m : Names). m.drafts) c.loop-alloc.invariant.names) c.loop-alloc.invariant.leads _
    (c.loop-alloc-test.ensures.0 refl)
    c.in_err-rest-2.ensures.passed)

pub returns-clause-found : goal.returns-clause-found
returns-clause-found c =
    steps_end_here c.args.names.now.drafts c.args.has_function _ c.args.drafts.now c.args.text.now _
    _
    (ap (λ (m : Names). m.drafts) c.loop-alloc.invariant.names) c.loop-alloc.invariant.leads _
    (c.loop-alloc-test.ensures.0 refl)
    c.in_ok-rest-2.ensures.passed
