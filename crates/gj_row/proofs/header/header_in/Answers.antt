use Rattle.std.proofs.Common.{◌≡◌, ◌≤◌, ◌++◌, ◌∷◌, ◌-◌, [], List, ℕ, take, drop, length, refl, sym, ap, ◌∙◌, subst, arith}
use Rattle.std.proofs.lemmas.List.{length-map}
use Rattle.csv.specs.Records.{fields_of}
use Rattle.gj_row.specs.TableauLimits.{AreNames}
use Rattle.gj_row.specs.TableauText.{word_of, header_of}
use Rattle.gj_row.specs.FirstFault.{BreaksName, IsNewName, HasHeaderFault}
use Rattle.gj_row.specs.Reading.{bytes_of, words_in}
use Rattle.gj_row.specs.declared.faults.RowReason.{RowReason}
use Rattle.gj_row.proofs.Lists.{parted_behind, taken_behind, all_behind}
use Rattle.gj_row.proofs.Reasons.{names_weaker, handed_on}
use Rattle.gj_row.proofs.HeaderWords.{names_with, too_many_columns, column_fault, behind_header}
use Rattle.gj_row.proofs.header.header_in.Goals as goal

pub returns-then-len-clause-refused : goal.returns-then-len-clause-refused
returns-then-len-clause-refused c = λ rows.
    let count = length-map (fields_of c.args.fields.now) word_of in
    too_many_columns (words_in c.args.fields.now) rows (c.if-not-begins_header.ensures.0 refl)
    (omega (arith, c.len.ensures, c.if-len.true))

pub returns-in_err-name-clause-refused : goal.returns-in_err-name-clause-refused
returns-in_err-name-clause-refused c =
    let words = words_in c.args.fields.now in
    let place = c.loop-place.place in
    let w = c.word_at.result.now in
    let so_far = c.loop-place.invariant in
    let count = length-map (fields_of c.args.fields.now) word_of in
    let few : length words ≤ 10002 = omega (arith, c.len.ensures, c.if-len.false) in
    let from : 2 ≤ place = c.loop-place.auto.place in
    let fault = c.in_err-name.field-0.0 in
    let Has = λ (e : RowReason). (rows : List (List (List ℕ))) → HasHeaderFault (words ∷ rows) e in
    handed_on c.from_residual-in_err-name.result fault Has c.from_residual-in_err-name.ensures.1
    (names_weaker (BreaksName (bytes_of c.loop-place.names.keys) w) Has fault
    (λ e breaks rows. column_fault words rows e (take (place - 2) (drop 2 words)) _ w
    (c.if-not-begins_header.ensures.0 refl) few
    (parted_behind 2 words place w c.word_at.ensures from) (subst AreNames so_far.read so_far.names)
    (subst (λ names. BreaksName names w e) (so_far.kept ∙ so_far.read) breaks))
    c.in_err-name.ensures.refused)

pub loop-place-preserved : goal.loop-place-preserved
loop-place-preserved c =
    let words = words_in c.args.fields.now in
    let place = c.loop-place.place in
    let w = c.word_at.result.now in
    let so_far = c.loop-place.invariant in
    let columns = c.loop-place.columns.items in
    let from : 2 ≤ place = c.loop-place.auto.place in
    let pushed : c.push.new.self.items ≡ columns ++ w ∷ [] =
    c.in_ok-push.ensures.items ∙ ap (λ name. columns ++ name ∷ []) c.in_ok-name.ensures.name in
    let new = subst (λ names. IsNewName names w) so_far.kept c.in_ok-name.ensures.new in
    record {
      read = pushed ∙ ap (λ l. l ++ w ∷ []) so_far.read
          ∙ sym (taken_behind 2 words place w c.word_at.ensures from);
      names = subst AreNames (sym pushed) (names_with columns w so_far.names new);
      kept = c.in_ok-name.ensures.kept ∙ ap (λ l. l ++ c.word_at.result.now ∷ []) so_far.kept
          ∙ sym pushed;
    }

pub returns : goal.returns
returns c =
    let words = words_in c.args.fields.now in
    let so_far = c.loop-place.invariant in
    let begins = c.if-not-begins_header.ensures.0 refl in
    let count = length-map (fields_of c.args.fields.now) word_of in
    let past : length words ≤ c.loop-place.place =
    omega (arith, c.len-place-end.ensures, c.loop-place-test.false) in
    let all : c.loop-place.columns.items ≡ drop 2 words = so_far.read
    ∙ all_behind 2 words c.loop-place.place past in
    let begin : words ≡ header_of c.loop-place.columns.items = behind_header words begins
    ∙ ap header_of (sym all) in
    let wide = ap length begin in
    record {
      begins = begin;
      few = omega (arith, c.len.ensures, c.if-len.false);
      names = so_far.names;
      kept = so_far.kept;
      refused = tt;
    }
