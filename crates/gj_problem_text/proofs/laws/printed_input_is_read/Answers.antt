use Rattle.gj_problem_text.proofs.PrintedInputs.{printed_is_read}
use Rattle.gj_problem_text.proofs.laws.printed_input_is_read.Goals as goal

pub returns : goal.returns
returns c = printed_is_read
