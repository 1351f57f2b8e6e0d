use Rattle.std.proofs.Common.{◌≡◌, ◌+◌, length, sym, ◌∙◌}
use Rattle.std.proofs.lemmas.List.{length-map}
use Rattle.std.proofs.lemmas.Result.{err_from_is_err_and}
use Rattle.gj_row.specs.TableauText.{word_of}
use Rattle.gj_row.specs.Reading.{fields_in, words_of_fields, bytes_of}
use Rattle.gj_row.proofs.Reasons.{names_weaker}
use Rattle.gj_row.proofs.RowWords.{row_read, name_refused, number_refused}
use Rattle.gj_row.proofs.read.next_row.Goals as goal

pub returns-in_err-basic-clause-refused : goal.returns-in_err-basic-clause-refused
returns-in_err-basic-clause-refused c =
    let p = err_from_is_err_and c.from_residual.result c.from_residual.ensures.1 in
    let words = words_of_fields c.args.fields.now in
    let wide : length words ≡ c.args.columns + 2 = length-map (fields_in c.args.fields.now) word_of
    ∙ sym c.field_count.ensures ∙ c.if-field_count-columns.false in
    rw (p.1, p.2)
    (names_weaker _ _ _
    (λ e breaks. name_refused c.args.columns c.args.rows c.args.used
    (bytes_of c.args.names.now.keys) words c.first_word.result.now e wide
    c.if-rows-ge-MOST_ROWS.false
    c.first_word.ensures breaks)
    c.in_err-basic.ensures.refused)

pub returns-in_err-numbers-clause-refused : goal.returns-in_err-numbers-clause-refused
returns-in_err-numbers-clause-refused c =
    let p = err_from_is_err_and c.from_residual-in_err-numbers.result
    c.from_residual-in_err-numbers.ensures.1 in
    let words = words_of_fields c.args.fields.now in
    let wide : length words ≡ c.args.columns + 2 = length-map (fields_in c.args.fields.now) word_of
    ∙ sym c.field_count.ensures ∙ c.if-field_count-columns.false in
    rw (p.1, p.2)
    (names_weaker _ _ _
    (λ e fault. number_refused c.args.columns c.args.rows c.args.used
    (bytes_of c.args.names.now.keys) words c.first_word.result.now e wide
    c.if-rows-ge-MOST_ROWS.false
    c.first_word.ensures c.in_ok-basic.ensures.new fault)
    c.in_err-numbers.ensures.refused)

pub returns-clause-row : goal.returns-clause-row
returns-clause-row c =
    let words = words_of_fields c.args.fields.now in
    let wide : length words ≡ c.args.columns + 2 = length-map (fields_in c.args.fields.now) word_of
    ∙ sym c.field_count.ensures ∙ c.if-field_count-columns.false in
    row_read c.args.columns c.args.used words c.first_word.result.now _
    c.in_ok-numbers.numbers.scale c.in_ok-numbers.numbers.entries.items wide
    c.first_word.ensures c.in_ok-basic.ensures.name c.in_ok-numbers.ensures.found c.of.ensures
