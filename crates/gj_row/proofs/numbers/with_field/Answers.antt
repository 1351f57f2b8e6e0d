use Rattle.std.proofs.Common.{◌≡◌, ◌+◌, Some, IfSome, IfNone, length, subst}
use Rattle.gj_frac.specs.declared.Frac.{Frac}
use Rattle.gj_row.specs.TableauText.{SpellsEntry, word_of}
use Rattle.gj_row.specs.Reading.{StopsAtFirst, StopsEntry}
use Rattle.gj_row.proofs.Reasons.{names_weaker, handed_on}
use Rattle.gj_row.proofs.SpelledNumbers.{found_here, stops_at_word}
use Rattle.gj_row.proofs.numbers.with_field.Goals as goal

pub returns-in_err-multiple-clause-refused : goal.returns-in_err-multiple-clause-refused
returns-in_err-multiple-clause-refused c =
    let line = c.args.line.now in
    let scale = c.args.scale in
    let count = c.args.used + length c.args.entries.now.items in
    let number = c.entry_number-number.result in
    let field = c.first_field.result.0.now in
    let found = subst (λ w. IfSome number (SpellsEntry w)) c.word_of.ensures
    c.entry_number-number.ensures.found in
    let none = subst (λ w. IfNone number ((x : Frac) → SpellsEntry w x → ⊥)) c.word_of.ensures
    c.entry_number-number.ensures.none in
    let fault = c.in_err-multiple.field-0.0 in
    handed_on c.from_residual.result fault (StopsAtFirst line scale count) c.from_residual.ensures.1
    (names_weaker (StopsEntry (λ x. number ≡ Some x) scale count)
    (StopsAtFirst line scale count) fault
    (λ e stops. record {
      field = field;
      behind = _;
      fields_are = c.first_field.ensures;
      stops = stops_at_word (SpellsEntry (word_of field)) scale count number e found none stops;
    })
    c.in_err-multiple.ensures.refused)

pub returns-clause-found : goal.returns-clause-found
returns-clause-found c =
    let number = c.entry_number-number.result in
    let field = c.first_field.result.0.now in
    let spelled = subst (λ w. IfSome number (SpellsEntry w)) c.word_of.ensures
    c.entry_number-number.ensures.found in
    let found = c.in_ok-multiple.ensures.found in (
      found.0,
      record {
        field = field;
        fields_are = c.first_field.ensures;
        spelled = found_here (SpellsEntry (word_of field)) number found.0 found.1 spelled;
      },
      found.2,
      found.3,
      found.4,
    )
