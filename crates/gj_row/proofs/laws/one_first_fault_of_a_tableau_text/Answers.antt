use Rattle.gj_row.specs.TableauText.{records_of}
use Rattle.gj_row.proofs.OneFirstFault.{one_first_fault}
use Rattle.gj_row.proofs.laws.one_first_fault_of_a_tableau_text.Goals as goal

pub returns : goal.returns
returns c = λ text. one_first_fault (records_of text)
