use Rattle.gj_row.specs.TableauText.{records_of}
use Rattle.gj_row.proofs.OneTableau.{one_tableau}
use Rattle.gj_row.proofs.laws.one_tableau_for_a_text.Goals as goal

pub returns : goal.returns
returns c = λ text t s h k. one_tableau (records_of text) t s h k
