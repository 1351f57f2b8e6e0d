use Rattle.std.proofs.Common.{◌≡◌, ◌<◌, ◌≤◌, ◌+◌, ◌-◌, ◌∷◌, [], Some, take, drop, length, ap, subst, arith}
use Rattle.std.proofs.lemmas.List.{length-map}
use Rattle.csv.specs.Records.{fields_of}
use Rattle.gj_row.specs.TableauText.{word_of, SpellsEntry}
use Rattle.gj_row.specs.FirstFault.{HasNumberFault}
use Rattle.gj_row.specs.Reading.{HasRead, StopsEntry, words_in}
use Rattle.gj_row.proofs.Lists.{get_behind, taken_with, parted_behind, taken_behind, long_behind, all_behind}
use Rattle.gj_row.specs.declared.faults.RecordFault.TheVariants.{Refused}
use Rattle.gj_row.proofs.Reasons.{names_weaker, handed_on}
use Rattle.gj_row.proofs.RowNumbers.{right_read, entry_read, right_stopped, entry_stopped}
use Rattle.gj_row.proofs.SpelledNumbers.{found_here, stops_at_word}
use Rattle.gj_row.proofs.numbers.numbers_in.Goals as goal

pub returns-in_err-rhs-clause-refused : goal.returns-in_err-rhs-clause-refused
returns-in_err-rhs-clause-refused c =
    let words = words_in c.args.fields.now in
    handed_on c.from_residual.result (Refused c.in_err-rhs.field-0.0)
    (HasNumberFault c.args.used (drop 1 words)) c.from_residual.ensures.1
    (right_stopped c.args.used c.word_at.result.now _
    (drop 1 words) c.in_err-rhs.field-0.0 c.requires.few
    (parted_behind 1 words 1 c.word_at.result.now c.word_at.ensures (omega arith))
    c.in_err-rhs.ensures.refused)

pub loop-place-init : goal.loop-place-init
loop-place-init c =
    let words = words_in c.args.fields.now in
    let w = c.word_at.result.now in
    let first : take 1 (drop 1 words) ≡ w ∷ [] =
    taken_with (drop 1 words) 0 w (get_behind 1 words 1 w c.word_at.ensures (omega arith)) in
    rw (first, c.in_ok-entries.ensures.items)
    (right_read c.args.used w c.in_ok-rhs.rhs c.in_ok-rhs.scale c.requires.few
    c.in_ok-rhs.ensures.found.0 c.in_ok-rhs.ensures.found.1)

pub with_number-requires : goal.with_number-requires
with_number-requires c = record {
  low = c.loop-place.invariant.low;
  high = c.loop-place.invariant.high;
  few = let e = ap length c.loop-place.invariant.entries_are in
      omega (arith, c.loop-place.invariant.begins.few);
}

pub returns-in_err-scale-clause-refused : goal.returns-in_err-scale-clause-refused
returns-in_err-scale-clause-refused c =
    let words = words_in c.args.fields.now in
    let place = c.loop-place.place in
    let w = c.word_at-word.result.now in
    let fault = c.in_err-scale.field-0.0 in
    handed_on c.from_residual-in_err-scale.result fault (HasNumberFault c.args.used (drop 1 words))
    c.from_residual-in_err-scale.ensures.1
    (names_weaker (StopsEntry (λ x. c.entry_number-number.result ≡ Some x) c.loop-place.scale
    (c.args.used + length c.loop-place.entries.items))
    (HasNumberFault c.args.used (drop 1 words)) fault
    (λ e stops. entry_stopped c.args.used (take (place - 1) (drop 1 words)) c.in_ok-rhs.rhs
    c.loop-place.scale c.loop-place.entries.items w _
    (drop 1 words) e c.loop-place.invariant
    (parted_behind 1 words place w c.word_at-word.ensures
    (omega (arith, c.loop-place.auto.place)))
    (stops_at_word (SpellsEntry w) c.loop-place.scale
    (c.args.used + length c.loop-place.entries.items) c.entry_number-number.result e
    c.entry_number-number.ensures.found c.entry_number-number.ensures.none stops))
    c.in_err-scale.ensures.refused)

pub loop-place-preserved : goal.loop-place-preserved
loop-place-preserved c =
    let words = words_in c.args.fields.now in
    let place = c.loop-place.place in
    let w = c.word_at-word.result.now in
    let from : 2 ≤ place = c.loop-place.auto.place in
    let count = length-map (fields_of c.args.fields.now) word_of in
    let within : place < length words =
    omega (arith, c.len-place-end.ensures, c.loop-place-test.true) in
    let long = long_behind 1 words place (omega arith) in
    let column : place - 2 + 1 ≡ length (take (place - 1) (drop 1 words)) = omega arith in
    let found = c.in_ok-scale.ensures.found in
    rw (taken_behind 1 words place w c.word_at-word.ensures (omega arith))
    (entry_read c.args.used (take (place - 1) (drop 1 words)) c.in_ok-rhs.rhs c.loop-place.scale
    c.loop-place.entries.items (place - 2) w
    found.0 c.in_ok-scale.scale c.with_number.new.entries.items c.loop-place.invariant column
    (found_here (SpellsEntry w) c.entry_number-number.result found.0 found.1
    c.entry_number-number.ensures.found) found.2 found.3 found.4)

pub returns-clause-found : goal.returns-clause-found
returns-clause-found c =
    let words = words_in c.args.fields.now in
    let count = length-map (fields_of c.args.fields.now) word_of in
    let past : length words ≤ c.loop-place.place =
    omega (arith, c.len-place-end.ensures, c.loop-place-test.false) in
    subst (λ ws. HasRead c.args.used ws c.in_ok-rhs.rhs c.loop-place.scale
    c.loop-place.entries.items)
    (all_behind 1 words c.loop-place.place past) c.loop-place.invariant
