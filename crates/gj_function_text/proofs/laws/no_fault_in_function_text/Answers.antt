use Rattle.gj_function_text.proofs.OneText.{no_fault_of_text, no_fault_of_whole}
use Rattle.gj_function_text.proofs.laws.no_fault_in_function_text.Goals as goal

pub returns-clause-front : goal.returns-clause-front
returns-clause-front c = λ text rest f n e h k. no_fault_of_text text rest f n e h k

pub returns-clause-whole : goal.returns-clause-whole
returns-clause-whole c = no_fault_of_whole
