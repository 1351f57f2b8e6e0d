use Rattle.gj_problem_text.proofs.WholeTexts.{whole_text}
use Rattle.gj_problem_text.proofs.text.cuts_text.Goals as goal

pub returns : goal.returns
returns c =
    let (rule_lines, are, pushed) = c.in_ok-push_rule_lines.ensures in
    whole_text c.args.rule.now c.args.task.now c.in_ok-out.out.items rule_lines
    c.push_rule_lines.new.out.items c.push_answers.new.out.items _
    c.in_ok-out.ensures.items are pushed c.in_ok-push_answers.ensures
    c.in_ok-extend_from_slice.ensures.items
