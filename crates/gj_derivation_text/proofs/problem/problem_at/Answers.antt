use Rattle.std.proofs.Common.{Bool, ap, ◌∙◌}
use Rattle.std.proofs.lemmas.Result.{err_from_is_err_and}
use Rattle.gj_forms.specs.Parts.{IsFaultOf}
use Rattle.gj_forms.proofs.PartLaws.{passed_on}
use Rattle.gj_derivation_text.specs.DerivationText.{problem_part, names_of}
use Rattle.gj_derivation_text.specs.declared.names.Names.{Names}
use Rattle.gj_derivation_text.proofs.ProblemRead.{problem_on, problem_ends, problem_fault}
use Rattle.gj_derivation_text.proofs.problem.problem_at.Goals as goal

pub returns-in_err-behind-clause-fault : goal.returns-in_err-behind-clause-fault
returns-in_err-behind-clause-fault c =
    let p = err_from_is_err_and c.from_residual.result c.from_residual.ensures.1 in
    passed_on (IsFaultOf (problem_part c.args.names.now.drafts) c.args.text.now) _ _ _ p.1 p.2
    (problem_fault _ _ _ _ _ (ap (λ (m : Names). m.drafts) c.loop-behind.invariant.names)
    c.loop-behind.invariant.leads _
    c.in_err-behind.ensures.fault)

pub loop-behind-preserved : goal.loop-behind-preserved
loop-behind-preserved c =
    let flag = ap (λ (m : Names). m.drafts) c.loop-behind.invariant.names in record {
      few = c.in_ok-behind.ensures.few;
      names = c.in_ok-behind.ensures.names
          ∙ ap (λ (b : Bool). names_of b c.problem_line_at.new.drafts) flag;
      leads = problem_on _ _ _ _ _ flag c.loop-behind.invariant.leads _ _
          (rw c.in-Some.is at c.in_ok-behind.ensures.found);
    }

pub returns-clause-found : goal.returns-clause-found
returns-clause-found c =
    problem_ends _ _ _ _ _ (ap (λ (m : Names). m.drafts) c.loop-behind.invariant.names)
    c.loop-behind.invariant.leads _ _
    (rw c.in_default.is at c.in_ok-behind.ensures.found)
