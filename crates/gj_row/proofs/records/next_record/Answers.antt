use Rattle.std.proofs.Common.{◌≡◌, true, All, subst, sym, inl, ◌∙◌}
use Rattle.std.specs.Option.{IfNone}
use Rattle.csv.specs.Reading.{ReadRecord, default_config, strip_bom}
use Rattle.csv.specs.Records.{fields_of}
use Rattle.csv.specs.declared.parser.State.TheVariants.{StartRecord}
use Rattle.csv.proofs.ReadFacts.{rows-end, rows-more}
use Rattle.gj_row.specs.Reading.{ReaderStandsBehind, StandsBehind, bytes_left, is_line_end}
use Rattle.gj_row.proofs.CsvRecords.{records_end}
use Rattle.gj_row.proofs.Lines.{line_read, blanks_end}
use Rattle.gj_row.proofs.records.next_record.Goals as goal

pub returns-in-Ok-clause-end : goal.returns-in-Ok-clause-end
returns-in-Ok-clause-end c = λ none text before stands.
    let old = c.deref_mut.result.now in
    let at = subst (ReaderStandsBehind text before) (sym c.deref_mut.ensures.value)
    (subst (StandsBehind text before) c.in-Quoted.is stands) in
    let new = c.read_byte_record.new.self in
    let fields = fields_of c.read_byte_record.new.row in
    let step = subst (λ found. ReadRecord bytes_left old new found fields) none
    (c.in-Ok.ensures.reads at.no_trim at.ready) in
    records_end (strip_bom text) before _ at.rest at.reached
    (rows-end bytes_left old new fields default_config at.rest at.config at.source step)

pub returns-in-Ok-clause-some : goal.returns-in-Ok-clause-some
returns-in-Ok-clause-some c = λ some text before stands.
    let old = c.deref_mut.result.now in
    let at = subst (ReaderStandsBehind text before) (sym c.deref_mut.ensures.value)
    (subst (StandsBehind text before) c.in-Quoted.is stands) in
    let new = c.read_byte_record.new.self in
    let fields = fields_of c.read_byte_record.new.row in
    let step = subst (λ found. ReadRecord bytes_left old new found fields) some
    (c.in-Ok.ensures.reads at.no_trim at.ready) in
    let more = rows-more bytes_left old new fields default_config StartRecord
    (strip_bom text) at.rest before at.config at.source at.reached step in
    record {
      no_trim = step.3 ∙ at.no_trim;
      ready = inl (c.in-Ok.ensures.ready at.no_trim);
      config = step.2 ∙ at.config;
      rest = more.0;
      source = more.1;
      reached = more.2;
    }

pub returns-in-None-clause-end : goal.returns-in-None-clause-end
returns-in-None-clause-end c = λ none text before stands.
    let at = subst (StandsBehind text before) c.in-Plain.is stands in
    records_end (strip_bom text) before at.from at.rest at.reached
    (at.same ∙ blanks_end c.in-Plain.left.now
    (subst (λ o. IfNone o (All (λ b. is_line_end b ≡ true) c.in-Plain.left.now)) c.in-None.is
    c.first_line.ensures.none))

pub returns-in-Some-clause-some : goal.returns-in-Some-clause-some
returns-in-Some-clause-some c = λ some text before stands.
    let at = subst (StandsBehind text before) c.in-Plain.is stands in
    line_read text before c.in-Plain.left.now c.in-Some.line.now c.in-Some.after.now at
    c.in-Some.ensures.some
