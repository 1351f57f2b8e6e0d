use Rattle.std.proofs.Common.{◌∷◌, ℕ, List, subst}
use Rattle.std.proofs.lemmas.Result.{err_from_is_err_and}
use Rattle.gj_row.specs.TableauText.{IsTableauText}
use Rattle.gj_row.specs.FirstFault.{HasHeaderFault, IsFirstFaultOfTableau}
use Rattle.gj_row.specs.Reading.{HoldsBehindFirst, HoldsBehindHeader, bytes_of, tableau_of, fields_in, words_of_fields}
use Rattle.gj_row.proofs.Reasons.{names_record, records_weaker}
use Rattle.gj_row.proofs.RowsRead.{header_fault, behind_header}
use Rattle.gj_row.proofs.read.tableau_behind.Goals as goal

pub returns-in-Err-clause-refused : goal.returns-in-Err-clause-refused
returns-in-Err-clause-refused c =
    let fields = c.args.fields.now in
    let records = c.args.records.now in
    rw c.in_record.ensures
    (names_record (λ e. (rows : List (List (List ℕ))) →
    HasHeaderFault (words_of_fields fields ∷ rows) e)
    (λ n e. HoldsBehindFirst (fields_in fields) records (λ text. IsFirstFaultOfTableau text n e))
    c.in-Err.fault 1
    (λ e fault text stands. header_fault text records (fields_in fields) e stands fault)
    c.in-Err.ensures.refused)

pub rows_in-requires : goal.rows_in-requires
rows_in-requires c = rw c.deref.ensures.value c.in-Ok.ensures.few

pub returns-in_err-rows-clause-refused : goal.returns-in_err-rows-clause-refused
returns-in_err-rows-clause-refused c =
    let p = err_from_is_err_and c.from_residual.result c.from_residual.ensures.1 in
    let columns = c.deref.result.now in
    let names = bytes_of c.in-Ok.header.names.keys in
    let fields = c.args.fields.now in
    let records = c.args.records.now in
    let header = c.in-Ok.ensures in
    rw (p.1, p.2)
    (records_weaker (λ n e. HoldsBehindHeader columns names records
    (λ text. IsFirstFaultOfTableau text n e))
    (λ n e. HoldsBehindFirst (fields_in fields) records (λ text. IsFirstFaultOfTableau text n e))
    c.in_err-rows.field-0.0
    (λ n e fault text stands. fault text
    (behind_header text records (fields_in fields) c.in-Ok.header.columns.items names columns
    c.deref.ensures.value stands header.begins header.few header.names header.kept))
    c.in_err-rows.ensures.refused)

pub returns-clause-found : goal.returns-clause-found
returns-clause-found c = λ text stands.
    let columns = c.in-Ok.header.columns.items in
    let names = bytes_of c.in-Ok.header.names.keys in
    let fields = c.args.fields.now in
    let records = c.args.records.now in
    let header = c.in-Ok.ensures in
    let rows = c.in_ok-rows.rows.items in
    rw (c.of.ensures, c.of-2.ensures)
    (subst (λ cs. IsTableauText text (tableau_of cs rows)) c.deref.ensures.value
    (c.in_ok-rows.ensures.found text
    (behind_header text records (fields_in fields) columns names c.deref.result.now
    c.deref.ensures.value stands header.begins header.few header.names header.kept)))
