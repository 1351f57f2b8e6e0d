use Rattle.gj_commands.proofs.NamesOfMixedCuts.{lines_have_names}
use Rattle.gj_commands.proofs.OneListOfMixedCuts.{one_list}
use Rattle.gj_commands.proofs.laws.one_list_of_mixed_cuts.Goals as goal

pub returns-clause-list : goal.returns-clause-list
returns-clause-list c = one_list

pub returns-clause-names : goal.returns-clause-names
returns-clause-names c = λ r t text is cuts. lines_have_names r t is cuts.lines cuts.lines_are
