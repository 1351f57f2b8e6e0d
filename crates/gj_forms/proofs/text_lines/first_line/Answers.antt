use Rattle.std.proofs.Common.{◌+◌, sym, refl, subst}
use Rattle.std.proofs.lemmas.List.{take_rest}
use Rattle.gj_forms.specs.TextLines.{HasFirstWords}
use Rattle.gj_lex.specs.Words.{word_texts}
use Rattle.gj_forms.proofs.LenientLines.{words_before_feed, words_without_feed}
use Rattle.gj_forms.proofs.text_lines.first_line.Goals as goal

pub returns-in-Some-clause-words : goal.returns-in-Some-clause-words
returns-in-Some-clause-words c =
    let text = c.args.text.now in
    let end = c.in-Some.end in
    let bytes = c.without_return.result.now in
    subst (HasFirstWords text (word_texts bytes)) (sym (take_rest text (end + 1)))
    (words_before_feed text bytes end (sym c.in-Some.ensures) c.without_return.ensures)

pub returns-in-None-clause-words : goal.returns-in-None-clause-words
returns-in-None-clause-words c =
    words_without_feed c.args.text.now _ (sym c.in-None.ensures) c.requires refl
