use Rattle.std.proofs.Common.{◌≡◌}
use Rattle.std.proofs.lemmas.Result.{IfOk-weaker, IfErr-weaker, MatchResult-from_both}
use Rattle.gj_row.specs.TableauText.{IsTableauText, records_of}
use Rattle.gj_row.specs.FirstFault.{IsFirstFaultOfTableau}
use Rattle.gj_row.specs.Reading.{IsMemoryFault, NamesRecord}
use Rattle.gj_row.proofs.OneTableau.{one_tableau, only_memory}
use Rattle.gj_row.proofs.tableau.Tableau.read.Goals as goal

pub returns-clause-only : goal.returns-clause-only
returns-clause-only c = λ t h.
    let text = c.args.bytes.now in
    let result = c.tableau_in.result in
    MatchResult-from_both result (λ read. read ≡ t) IsMemoryFault
    (IfOk-weaker result (IsTableauText text) (λ read. read ≡ t)
    (λ read spelled. one_tableau (records_of text) read t spelled h)
    c.tableau_in.ensures.found)
    (IfErr-weaker result (NamesRecord (IsFirstFaultOfTableau text)) IsMemoryFault
    (λ fault first. only_memory text t fault h first)
    c.tableau_in.ensures.refused)
