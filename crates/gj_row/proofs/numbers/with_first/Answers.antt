use Rattle.std.proofs.Common.{◌≡◌, ◌+◌, Some, length}
use Rattle.gj_row.specs.TableauText.{SpellsEntry, word_of}
use Rattle.gj_row.specs.Reading.{StopsAtFirst, StopsEntry}
use Rattle.gj_row.proofs.Reasons.{names_weaker, handed_on}
use Rattle.gj_row.proofs.SpelledNumbers.{found_here, stops_at_word}
use Rattle.gj_row.proofs.numbers.with_first.Goals as goal

pub returns-in_err-multiple-in-Some-clause-refused : goal.returns-in_err-multiple-in-Some-clause-refused
returns-in_err-multiple-in-Some-clause-refused c =
    let line = c.args.line.now in
    let scale = c.args.scale in
    let count = c.args.used + length c.args.entries.now.items in
    let number = Some c.in-Some.x in
    let first = c.in-Some.ensures in
    let fault = c.in_err-multiple-in-Some.field-0.0 in
    handed_on c.from_residual.result fault (StopsAtFirst line scale count) c.from_residual.ensures.1
    (names_weaker (StopsEntry (λ x. number ≡ Some x) scale count)
    (StopsAtFirst line scale count) fault
    (λ e stops. record {
      field = first.field;
      behind = _;
      fields_are = first.fields_are;
      stops = stops_at_word (SpellsEntry (word_of first.field)) scale count number e first.spelled
          tt stops;
    })
    c.in_err-multiple-in-Some.ensures.refused)

pub returns-in_ok-multiple-in-Some-clause-found : goal.returns-in_ok-multiple-in-Some-clause-found
returns-in_ok-multiple-in-Some-clause-found c =
    let first = c.in-Some.ensures in
    let found = c.in_ok-multiple-in-Some.ensures.found in (
      found.0,
      record {
        field = first.field;
        fields_are = first.fields_are;
        spelled = found_here (SpellsEntry (word_of first.field)) (Some c.in-Some.x) found.0
            found.1 first.spelled;
      },
      found.2,
      found.3,
      found.4,
    )
