use Rattle.gj_proof.proofs.LineNumbers.{one_number, line_of_number}
use Rattle.gj_proof.proofs.laws.numbers_of_lines.Goals as goal

pub returns : goal.returns
returns c = record { one = one_number; line = line_of_number }
