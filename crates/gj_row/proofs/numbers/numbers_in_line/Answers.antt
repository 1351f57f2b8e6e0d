use Rattle.std.proofs.Common.{◌≡◌, ◌+◌, ◌-◌, ◌∷◌, Some, length, map, take, drop, ap, sym, ◌∙◌, subst, arith}
use Rattle.gj_lex.specs.SpelledNumbers.{IsFractionWord}
use Rattle.gj_lex.specs.declared.spelling.Spelling.TheVariants.{Lenient}
use Rattle.gj_row.specs.TableauText.{word_of, SpellsEntry}
use Rattle.gj_row.specs.FirstFault.{HasNumberFault}
use Rattle.gj_row.specs.Reading.{StopsAtFirst, StopsEntry, fields_behind, fields_of_line}
use Rattle.gj_row.specs.declared.faults.RecordFault.TheVariants.{Refused}
use Rattle.gj_row.proofs.FirstPlaces.{behind_commas}
use Rattle.gj_row.proofs.Reasons.{names_weaker, handed_on}
use Rattle.gj_row.proofs.RowNumbers.{front_first, front_next, front_skips, front_stopped, front_long, front_all, length_behind_empty, right_stopped}
use Rattle.gj_row.proofs.SpelledNumbers.{found_here, stops_at_word}
use Rattle.gj_row.proofs.numbers.numbers_in_line.Goals as goal
use Rattle.gj_row.proofs.numbers.numbers_in_line.Goals.{in-Some-first_decimal+in_ok-scale-in-Some-first_decimal, in-None+in_ok-multiple-in-None}

pub returns-in_err-rhs-clause-refused : goal.returns-in_err-rhs-clause-refused
returns-in_err-rhs-clause-refused c =
    let behind = map word_of (fields_behind c.first_field.result.1) in
    let words = map word_of (fields_of_line c.args.line.now) in
    handed_on c.from_residual.result (Refused c.in_err-rhs.field-0.0)
    (HasNumberFault c.args.used words) c.from_residual.ensures.1
    (right_stopped c.args.used c.word_of.result.now behind words c.in_err-rhs.field-0.0
    c.requires.few
    (ap (map word_of) c.first_field.ensures ∙ ap (λ w. w ∷ behind) (sym c.word_of.ensures))
    c.in_err-rhs.ensures.refused)

pub loop-left-init : goal.loop-left-init
loop-left-init c =
    let found = c.in_ok-rhs.ensures.found in
    rw c.in_ok-entries.ensures.items
    (front_first c.args.used (fields_of_line c.args.line.now)
    (fields_behind c.first_field.result.1) c.first_field.result.0.now c.in_ok-rhs.rhs
    c.in_ok-rhs.scale c.requires.few c.first_field.ensures
    (subst (λ w. IsFractionWord Lenient w c.in_ok-rhs.rhs) c.word_of.ensures found.0) found.1)

pub with_number-requires : goal.with_number-requires
with_number-requires c =
    let read = c.loop-left.invariant.read in
    record {
      low = read.low;
      high = read.high;
      few = let e = ap length read.entries_are in omega (arith, read.begins.few);
    }

pub with_first-requires : goal.with_first-requires
with_first-requires c =
    let read = c.loop-left.invariant.read in
    record {
      low = read.low;
      high = read.high;
      few = let e = ap length read.entries_are in omega (arith, read.begins.few);
    }

pub overflow_cast-column : goal.overflow_cast-column
overflow_cast-column c =
    let empty = c.leading_commas-empty.result in
    let is = ap fields_behind c.in-Some.is
    ∙ behind_commas c.in-Some.rest.now empty c.leading_commas-empty.ensures.count in
    omega (
      arith,
      length_behind_empty (fields_behind c.loop-left.left) empty _ is,
      front_long
          c.loop-left.invariant,
      c.requires.narrow,
    )

pub overflow_add-column : goal.overflow_add-column
overflow_add-column c =
    let empty = c.leading_commas-empty.result in
    let is = ap fields_behind c.in-Some.is
    ∙ behind_commas c.in-Some.rest.now empty c.leading_commas-empty.ensures.count in
    omega (
      arith,
      length_behind_empty (fields_behind c.loop-left.left) empty _ is,
      front_long
          c.loop-left.invariant,
      c.requires.narrow,
    )

pub returns-in_err-scale-in-Some-first_decimal-clause-refused :
    goal.returns-in_err-scale-in-Some-first_decimal-clause-refused
returns-in_err-scale-in-Some-first_decimal-clause-refused c =
    let rest = c.in-Some.rest.now in
    let empty = c.leading_commas-empty.result in
    let line = take (length rest - empty) (drop empty rest) in
    let fields = fields_of_line c.args.line.now in
    let scale = c.loop-left.scale in
    let entries = c.loop-left.entries.items in
    let count = c.args.used + length entries in
    let number = Some c.in-Some-first_decimal.x in
    let first = c.in-Some-first_decimal.ensures in
    let fault = c.in_err-scale-in-Some-first_decimal.field-0.0 in
    let is = ap fields_behind c.in-Some.is
    ∙ behind_commas rest empty c.leading_commas-empty.ensures.count in
    let at = front_skips (fields_of_line line) empty c.loop-left.invariant is in
    handed_on c.from_residual-in_err-scale-in-Some-first_decimal.result fault
    (HasNumberFault c.args.used (map word_of fields))
    c.from_residual-in_err-scale-in-Some-first_decimal.ensures.1
    (names_weaker (StopsEntry (λ x. number ≡ Some x) scale count)
    (HasNumberFault c.args.used (map word_of fields)) fault
    (λ e stops. front_stopped c.args.used fields (fields_of_line line) _ c.in_ok-rhs.rhs scale
    entries (c.loop-left.column + empty) first.field e
    at first.fields_are (stops_at_word (SpellsEntry (word_of first.field)) scale count number e
    first.spelled tt stops))
    c.in_err-scale-in-Some-first_decimal.ensures.refused)

pub returns-in_err-multiple-in-None-clause-refused :
    goal.returns-in_err-multiple-in-None-clause-refused
returns-in_err-multiple-in-None-clause-refused c =
    let rest = c.in-Some.rest.now in
    let empty = c.leading_commas-empty.result in
    let line = take (length rest - empty) (drop empty rest) in
    let fields = fields_of_line c.args.line.now in
    let scale = c.loop-left.scale in
    let entries = c.loop-left.entries.items in
    let count = c.args.used + length entries in
    let fault = c.in_err-multiple-in-None.field-0.0 in
    let is = ap fields_behind c.in-Some.is
    ∙ behind_commas rest empty c.leading_commas-empty.ensures.count in
    let at = front_skips (fields_of_line line) empty c.loop-left.invariant is in
    handed_on c.from_residual-in_err-multiple-in-None.result fault
    (HasNumberFault c.args.used (map word_of fields))
    c.from_residual-in_err-multiple-in-None.ensures.1
    (names_weaker (StopsAtFirst line scale count) (HasNumberFault c.args.used (map word_of fields))
    fault
    (λ e first. front_stopped c.args.used fields (fields_of_line line) first.behind c.in_ok-rhs.rhs
    scale entries (c.loop-left.column + empty)
    first.field e at first.fields_are first.stops)
    c.in_err-multiple-in-None.ensures.refused)

pub overflow_add-column-in-Some : goal.overflow_add-column-in-Some
overflow_add-column-in-Some c =
    let empty = c.leading_commas-empty.result in
    let is = ap fields_behind c.in-Some.is
    ∙ behind_commas c.in-Some.rest.now empty c.leading_commas-empty.ensures.count in
    omega (
      arith,
      length_behind_empty (fields_behind c.loop-left.left) empty _ is,
      front_long
          c.loop-left.invariant,
      c.requires.narrow,
    )

pub loop-left-preserved : goal.loop-left-preserved
loop-left-preserved c =
    let rest = c.in-Some.rest.now in
    let empty = c.leading_commas-empty.result in
    let line = take (length rest - empty) (drop empty rest) in
    let is = ap fields_behind c.in-Some.is
    ∙ behind_commas rest empty c.leading_commas-empty.ensures.count in
    let at = front_skips (fields_of_line line) empty c.loop-left.invariant is in
    elim c.match-first_decimal.branch [
      | in-Some-first_decimal+in_ok-scale-in-Some-first_decimal w ↦
          let first = w.in-Some-first_decimal.ensures in
          let found = w.in_ok-scale-in-Some-first_decimal.ensures.found in
          let spelled = found_here (SpellsEntry (word_of first.field))
          (Some w.in-Some-first_decimal.x) found.0 found.1 first.spelled in
          rw (w.scale-is, w.entries-is, w.left-is)
          (front_next c.args.used (fields_of_line c.args.line.now) (fields_of_line line)
          (fields_behind w.in-Some-first_decimal.next)
          c.in_ok-rhs.rhs c.loop-left.scale c.loop-left.entries.items
          (c.loop-left.column + empty) first.field found.0
          w.in_ok-scale-in-Some-first_decimal.scale w.with_number.new.entries.items at
          first.fields_are spelled found.2 found.3 found.4)
      | in-None+in_ok-multiple-in-None w ↦
          let found = w.in_ok-multiple-in-None.ensures.found in
          let first = found.1 in
          rw (w.scale-is, w.entries-is, w.left-is)
          (front_next c.args.used (fields_of_line c.args.line.now) (fields_of_line line)
          (fields_behind w.in_ok-multiple-in-None.next)
          c.in_ok-rhs.rhs c.loop-left.scale c.loop-left.entries.items
          (c.loop-left.column + empty) first.field found.0
          w.in_ok-multiple-in-None.multiple w.with_first.new.entries.items at first.fields_are
          first.spelled found.2 found.3 found.4)
    ]

pub loop-left-smaller : goal.loop-left-smaller
loop-left-smaller c =
    let empty = c.leading_commas-empty.result in
    let is = ap fields_behind c.in-Some.is
    ∙ behind_commas c.in-Some.rest.now empty c.leading_commas-empty.ensures.count in
    let long = length_behind_empty (fields_behind c.loop-left.left) empty _ is in
    elim c.match-first_decimal.branch [
      | in-Some-first_decimal+in_ok-scale-in-Some-first_decimal w ↦
          let more = ap length w.in-Some-first_decimal.ensures.fields_are in
          rw w.left-is (omega (arith, long, more))
      | in-None+in_ok-multiple-in-None w ↦
          let more = ap length w.in_ok-multiple-in-None.ensures.found.1.fields_are in
          rw w.left-is (omega (arith, long, more))
    ]

pub returns-clause-found : goal.returns-clause-found
returns-clause-found c =
    front_all c.args.used (fields_of_line c.args.line.now)
    (fields_behind c.loop-left.left) c.in_ok-rhs.rhs c.loop-left.scale
    c.loop-left.entries.items c.loop-left.column c.loop-left.invariant
    (ap fields_behind c.in_default.is)
