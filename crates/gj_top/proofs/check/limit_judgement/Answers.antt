use Rattle.std.proofs.Common.{◌++◌, codes, ap, ◌∙◌}
use Rattle.gj_function_lines.specs.FunctionLines.{line}
use Rattle.gj_limit_proof.specs.LimitText.{claim_word}
use Rattle.gj_top.proofs.check.limit_judgement.Goals as goal

pub returns-in_ok-worded_line-in-Ok : goal.returns-in_ok-worded_line-in-Ok
returns-in_ok-worded_line-in-Ok c = record {
  rules = c.in-Ok.ensures.ok;
  holds = c.in-Ok.ensures.holds c.requires;
  spelled = c.in_ok-worded_line-in-Ok.ensures
      ∙ ap (λ w. line (codes "accepted " ++ w))
      (c.word.ensures ∙ ap claim_word c.claim.ensures.claim);
}
