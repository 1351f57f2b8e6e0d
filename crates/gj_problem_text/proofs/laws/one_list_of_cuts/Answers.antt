use Rattle.gj_problem_text.proofs.OneListOfCuts.{one_list}
use Rattle.gj_problem_text.proofs.laws.one_list_of_cuts.Goals as goal

pub returns : goal.returns
returns c = λ names cuts others are g h e. one_list names are cuts others g h e
