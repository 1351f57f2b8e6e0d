use Rattle.std.proofs.Common.{sym, ap, ◌∙◌, ◌+◌, ◌≤◌, ◌≡◌, ◌++◌, Some, length, false, arith}
use Rattle.std.proofs.lemmas.List.{append-nil, length_push}
use Rattle.gj_row.specs.TableauText.{is_zero}
use Rattle.gj_row.specs.Reading.{StopsEntry}
use Rattle.gj_row.specs.declared.faults.RecordFault.TheVariants.{Refused}
use Rattle.gj_row.proofs.Reasons.{handed_on}
use Rattle.gj_row.proofs.SpelledNumbers.{entry_none, entry_one, stops_at}
use Rattle.gj_row.proofs.numbers.with_number.Goals as goal

pub returns-in_err-x-clause-refused : goal.returns-in_err-x-clause-refused
returns-in_err-x-clause-refused c =
    let count = c.args.used + length c.args.entries.now.items in
    handed_on c.from_residual.result (Refused c.in_err-x.field-0.0)
    (StopsEntry (λ x. c.args.number ≡ Some x) c.args.scale count) c.from_residual.ensures.1
    (stops_at c.args.scale count c.args.number c.in_err-x.field-0.0 c.in_err-x.ensures.refused)

pub returns-then-is_zero-clause-found : goal.returns-then-is_zero-clause-found
returns-then-is_zero-clause-found c =
    let x = c.in_ok-x.x in
    let items = c.args.entries.now.items in
    let none = entry_none c.args.column x (sym c.is_zero.ensures ∙ c.if-is_zero.true) in (
      x,
      c.in_ok-x.ensures.read,
      c.in_ok-x.ensures.least,
      sym (append-nil items)
          ∙ ap (λ l. items ++ l) (sym none),
      c.requires.few,
    )

pub returns-then-used-len-ge-MOST_ENTRIES-clause-refused :
    goal.returns-then-used-len-ge-MOST_ENTRIES-clause-refused
returns-then-used-len-ge-MOST_ENTRIES-clause-refused c =
    let some : is_zero c.in_ok-x.x ≡ false = sym c.is_zero.ensures ∙ c.if-is_zero.false in
    let many : 100000 ≤ c.args.used + length c.args.entries.now.items =
    omega (arith, c.if-used-len-ge-MOST_ENTRIES.true, c.len.ensures) in
    (c.in_ok-x.x, c.in_ok-x.multiple, c.in_ok-x.ensures.read, c.in_ok-x.ensures.least, some, many)

pub returns-clause-found : goal.returns-clause-found
returns-clause-found c =
    let x = c.in_ok-x.x in
    let items = c.args.entries.now.items in
    let one = entry_one c.args.column x (sym c.is_zero.ensures ∙ c.if-is_zero.false) in
    let pushed = c.in_ok-push_entry.ensures in
    let count : length c.push_entry.new.entries.items ≡ length items + 1 = ap length pushed
    ∙ length_push items (record { column = c.args.column; value = x }) in (
      x,
      c.in_ok-x.ensures.read,
      c.in_ok-x.ensures.least,
      pushed ∙ ap (λ l. items ++ l) (sym one),
      omega (arith, c.if-used-len-ge-MOST_ENTRIES.false, c.len.ensures),
    )
