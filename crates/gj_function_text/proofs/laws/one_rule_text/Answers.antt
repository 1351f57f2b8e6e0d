use Rattle.gj_function_text.proofs.RuleTexts.{one_end, no_fault_of_rule, one_fault_of_rule}
use Rattle.gj_function_text.proofs.laws.one_rule_text.Goals as goal

pub returns-clause-end : goal.returns-clause-end
returns-clause-end c = one_end

pub returns-clause-no_fault : goal.returns-clause-no_fault
returns-clause-no_fault c = λ text rest n e h k. no_fault_of_rule text rest n e h k

pub returns-clause-fault : goal.returns-clause-fault
returns-clause-fault c = one_fault_of_rule
