use Rattle.std.specs.Prelude.{ℕ}
use Rattle.gj_row.specs.declared.faults.RowReason.{RowReason}
use Rattle.std.proofs.lemmas.Result.{IfOk-weaker, IfErr-weaker}
use Rattle.gj_row.specs.TableauText.{IsTableauText}
use Rattle.gj_row.specs.FirstFault.{IsFirstFaultOfTableau}
use Rattle.gj_row.specs.Reading.{NamesRecord, HoldsBehindFirst, HoldsOfText, fields_in}
use Rattle.gj_row.proofs.Reasons.{records_weaker}
use Rattle.gj_row.proofs.RowsRead.{no_record}
use Rattle.gj_row.proofs.read.tableau_from.Goals as goal

pub returns-then-not-branch-clause-refused : goal.returns-then-not-branch-clause-refused
returns-then-not-branch-clause-refused c = λ text stands. no_record text c.args.records.now stands
    (c.in_ok-next_record.ensures.end c.if-not-branch.true)

pub returns-clause-found : goal.returns-clause-found
returns-clause-found c =
    let new = c.next_record.new in
    IfOk-weaker _ (λ t. HoldsBehindFirst (fields_in new.fields) new.records
    (λ text. IsTableauText text t))
    (λ t. HoldsOfText c.args.records.now (λ text. IsTableauText text t))
    (λ t h text start. h text (c.in_ok-next_record.ensures.some c.if-not-branch.false text _ start))
    c.tableau_behind.ensures.found

pub returns-clause-refused : goal.returns-clause-refused
returns-clause-refused c =
    let new = c.next_record.new in
    let P : ℕ → RowReason →
    Type 0 = λ n e. HoldsBehindFirst (fields_in new.fields) new.records
    (λ text. IsFirstFaultOfTableau text n e) in
    let Q : ℕ → RowReason →
    Type 0 = λ n e. HoldsOfText c.args.records.now (λ text. IsFirstFaultOfTableau text n e) in
    IfErr-weaker _ (NamesRecord P) (NamesRecord Q)
    (λ fault. records_weaker P Q fault
    (λ n e h text start. h text
    (c.in_ok-next_record.ensures.some c.if-not-branch.false text _ start)))
    c.tableau_behind.ensures.refused
