use Rattle.std.proofs.Common.{◌++◌, codes, ap, ◌∙◌}
use Rattle.gj_function_lines.specs.FunctionLines.{line}
use Rattle.gj_proof.specs.ProofText.{claim_word}
use Rattle.gj_proof.specs.Rules.{MeetsRules}
use Rattle.gj_check.proofs.RulesGiveMeaning.{meaning_of_rules}
use Rattle.gj_top.proofs.check.judgement.Goals as goal

pub returns-in_ok-worded_line-in-Ok : goal.returns-in_ok-worded_line-in-Ok
returns-in_ok-worded_line-in-Ok c =
    let rules : MeetsRules c.args.proof.now = c.in-Ok.ensures.ok in
    record {
      rules = rules;
      holds = meaning_of_rules c.args.proof.now c.requires c.claim.ensures.has_text rules;
      spelled = c.in_ok-worded_line-in-Ok.ensures
          ∙ ap (λ w. line (codes "accepted " ++ w))
          (c.word.ensures ∙ ap claim_word c.claim.ensures.claim);
    }
