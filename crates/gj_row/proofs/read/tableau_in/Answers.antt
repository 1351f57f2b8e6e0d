use Rattle.std.proofs.lemmas.Result.{IfOk-weaker, IfErr-weaker}
use Rattle.gj_row.specs.TableauText.{IsTableauText}
use Rattle.gj_row.specs.FirstFault.{IsFirstFaultOfTableau}
use Rattle.gj_row.specs.Reading.{NamesRecord, HoldsOfText}
use Rattle.gj_row.proofs.Reasons.{records_weaker}
use Rattle.gj_row.proofs.read.tableau_in.Goals as goal

pub returns : goal.returns
returns c =
    let text = c.args.bytes.now in
    let start = c.in_ok-records.ensures in
    let records = c.in_ok-records.records in record {
      found = IfOk-weaker c.tableau_from.result
          (λ t. HoldsOfText records (λ text. IsTableauText text t)) (IsTableauText text)
          (λ t read. read text start) c.tableau_from.ensures.found;
      refused = IfErr-weaker c.tableau_from.result
          (NamesRecord (λ n e. HoldsOfText records (λ text. IsFirstFaultOfTableau text n e)))
          (NamesRecord (IsFirstFaultOfTableau text))
          (λ fault. records_weaker
          (λ n e. HoldsOfText records (λ text. IsFirstFaultOfTableau text n e))
          (IsFirstFaultOfTableau text) fault
          (λ n e first. first text start))
          c.tableau_from.ensures.refused;
    }
