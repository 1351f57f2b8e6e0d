use Rattle.gj_problem_text.proofs.OneTextOfCuts.{one_text}
use Rattle.gj_problem_text.proofs.laws.one_text_of_cuts.Goals as goal

pub returns : goal.returns
returns c = one_text
