use Rattle.gj_row.specs.TableauText.{records_of}
use Rattle.gj_row.proofs.OneTableau.{no_first_fault}
use Rattle.gj_row.proofs.laws.no_fault_in_a_tableau_text.Goals as goal

pub returns : goal.returns
returns c = λ text t n e h k. no_first_fault (records_of text) t n e h k
