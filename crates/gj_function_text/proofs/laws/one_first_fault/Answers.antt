use Rattle.gj_function_text.proofs.OneText.{one_first_fault, one_first_fault_at_front}
use Rattle.gj_function_text.proofs.laws.one_first_fault.Goals as goal

pub returns-clause-front : goal.returns-clause-front
returns-clause-front c = one_first_fault_at_front

pub returns-clause-whole : goal.returns-clause-whole
returns-clause-whole c = one_first_fault
