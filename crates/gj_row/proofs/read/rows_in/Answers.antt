use Rattle.std.proofs.Common.{◌≡◌, ◌+◌, ◌<◌, refl, length, sym, ap, arith}
use Rattle.gj_row.specs.TableauLimits.{names_of, entry_count}
use Rattle.gj_row.specs.FirstFault.{HasRowFault, IsFirstFaultOfTableau}
use Rattle.gj_row.specs.Reading.{HoldsBehindHeader, bytes_of, tableau_of, fields_in, words_of_fields}
use Rattle.gj_row.specs.declared.tableau.Tableau.{Tableau}
use Rattle.gj_row.proofs.Reasons.{names_record}
use Rattle.gj_row.proofs.RowsRead.{header_read, row_added, rows_end, row_fault}
use Rattle.gj_row.proofs.read.rows_in.Goals as goal

pub loop-rows-init : goal.loop-rows-init
loop-rows-init c = record {
  few = omega arith;
  read = rw c.new-rows.ensures.items
      (λ text h. header_read text c.args.records.now c.args.columns.now
      (bytes_of c.args.names.now.keys) h);
}

pub next_row-requires-clause-narrow : goal.next_row-requires-clause-narrow
next_row-requires-clause-narrow c = c.requires

pub next_row-requires-clause-few : goal.next_row-requires-clause-few
next_row-requires-clause-few c = c.loop-rows.invariant.few

pub returns-in-Err-clause-refused : goal.returns-in-Err-clause-refused
returns-in-Err-clause-refused c =
    let columns = c.args.columns.now in
    let rows = c.loop-rows.rows.items in
    let names = bytes_of c.loop-rows.names.keys in
    let fields = c.next_record.new.fields in
    let many : length rows ≡ c.len.result = omega (arith, c.len.ensures) in
    let number : c.len-in-Err.result + 2 ≡ length rows + 2 = omega (arith, c.len-in-Err.ensures) in
    rw c.in_record.ensures
    (names_record
    (λ e. (t : Tableau) → length t.columns ≡ length columns → length t.rows ≡ c.len.result →
    names_of t ≡ names →
    entry_count t ≡ c.loop-rows.used → HasRowFault t (words_of_fields fields) e)
    (λ n e. HoldsBehindHeader columns (bytes_of c.args.names.now.keys) c.args.records.now
    (λ text. IsFirstFaultOfTableau text n e))
    c.in-Err.fault (c.len-in-Err.result + 2)
    (λ e fault text h. let so_far = c.loop-rows.invariant.read text h in
    row_fault text c.loop-rows.records c.next_record.new.records
    (fields_in fields) names columns rows c.loop-rows.used
    (c.len-in-Err.result + 2) e so_far
    (c.in_ok-next_record.ensures.some c.if-branch.true text so_far.before so_far.stands) number
    (fault (tableau_of columns rows) refl many (sym so_far.named) (sym so_far.counted)))
    c.in-Err.ensures.refused)

pub loop-rows-preserved : goal.loop-rows-preserved
loop-rows-preserved c =
    let rows = c.loop-rows.rows.items in
    let row = c.in-Ok.row in
    let read = c.in-Ok.ensures in
    let used = ap (λ l. c.loop-rows.used + length l) c.as_slice-count.ensures in
    let room : length rows < 10000 = omega (arith, c.len.ensures, read.room) in
    record {
      few = omega (arith, used, read.row.few);
      read = λ text h. let so_far = c.loop-rows.invariant.read text h in
          row_added text c.loop-rows.records c.next_record.new.records
          (fields_in c.next_record.new.fields) (bytes_of c.loop-rows.names.keys)
          c.args.columns.now (bytes_of c.next_row.new.names.keys) rows c.push.new.self.items
          c.loop-rows.used
          (c.loop-rows.used + length c.as_slice-count.result.now) row so_far
          (c.in_ok-next_record.ensures.some c.if-branch.true text so_far.before so_far.stands) room
          read.row read.new read.kept
          c.in_ok-push-in-Ok.ensures.items used;
    }

pub returns-clause-found : goal.returns-clause-found
returns-clause-found c = λ text h.
    rows_end text c.loop-rows.records (bytes_of c.loop-rows.names.keys) c.args.columns.now
    c.loop-rows.rows.items c.loop-rows.used
    (c.loop-rows.invariant.read text h) (c.in_ok-next_record.ensures.end c.if-branch.false)
