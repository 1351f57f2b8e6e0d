use Rattle.gj_function_text.specs.FirstFault.{IsFirstFaultOfFunction}
use Rattle.gj_function_text.specs.RuleText.{IsFirstFaultOfRule}
use Rattle.gj_top.specs.Cut.{RefusesCutInput}
use Rattle.gj_top.specs.Cut.RefusesCutInput.{of_rule, of_function}
use Rattle.gj_top.proofs.Refusals.{refused_at}
use Rattle.gj_top.proofs.cut_input.rule_of.Goals as goal

pub returns-in-Err-clause-refused : goal.returns-in-Err-clause-refused
returns-in-Err-clause-refused c =
    refused_at (IsFirstFaultOfRule c.args.input.now) RefusesCutInput c.args.input.now
    c.in-Err.at_line c.in-Err.reason c.refused.result
    c.in-Err.ensures.refused
    (λ text h. of_rule (c.begins_as_rule.ensures.0 c.if-begins_as_rule.true) h)
    c.refused.ensures

pub returns-in-Err-Refused-clause-refused : goal.returns-in-Err-Refused-clause-refused
returns-in-Err-Refused-clause-refused c =
    refused_at (IsFirstFaultOfFunction c.args.input.now) RefusesCutInput c.args.input.now
    c.in-Err-Refused.at_line c.in-Err-Refused.reason
    c.refused-in-Err-Refused.result
    (rw c.in-Err-Refused.field-0-is at c.in-Err-Refused.ensures.refused)
    (λ text h. of_function (λ begins. let yes = c.begins_as_rule.ensures.1 begins in
    let no = c.if-begins_as_rule.false in cc) h)
    c.refused-in-Err-Refused.ensures
