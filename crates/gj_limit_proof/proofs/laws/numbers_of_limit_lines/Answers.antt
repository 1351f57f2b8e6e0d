use Rattle.gj_limit_proof.proofs.LimitLineNumbers.{one_number, line_of_number}
use Rattle.gj_limit_proof.proofs.laws.numbers_of_limit_lines.Goals as goal

pub returns : goal.returns
returns c = record { one = one_number; line = line_of_number }
