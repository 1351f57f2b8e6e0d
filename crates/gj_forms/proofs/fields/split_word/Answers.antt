use Rattle.std.proofs.Common.{◌-◌, ◌∷◌, ◌∙◌, length, take, drop, unwrap_or, sym, ap, subst}
use Rattle.std.proofs.lemmas.List.{take_rest}
use Rattle.gj_lex.specs.Words.{HasAtFront, word_texts}
use Rattle.gj_lex.proofs.CanonicalTexts.{position_unwrapped}
use Rattle.gj_forms.proofs.LineWords.{first_word, no_words, word_parts}
use Rattle.gj_forms.proofs.fields.split_word.Goals as goal

pub returns-in_err-line-clause-none : goal.returns-in_err-line-clause-none
returns-in_err-line-clause-none c =
    rw c.from_residual.ensures (no_words c.args.line.now (sym c.in_err-line.ensures))

pub returns-clause-found : goal.returns-clause-found
returns-clause-found c =
    let line = c.args.line.now in
    let k = c.in_ok-line.field-0 in
    let end = c.unwrap_or-end.result in
    let rest = take (length line - k) (drop k line) in
    let at = c.unwrap_or-end.ensures ∙ ap (λ o. unwrap_or o (length rest)) c.first_blank.ensures
    ∙ position_unwrapped _ rest in
    first_word line rest k end (sym c.in_ok-line.ensures) (take_rest line k) at
    ∙ ap (λ t. take end rest ∷ word_texts t) (sym (take_rest rest end))

pub returns-clause-parts : goal.returns-clause-parts
returns-clause-parts c =
    let line = c.args.line.now in
    let k = c.in_ok-line.field-0 in
    let end = c.unwrap_or-end.result in
    let rest = take (length line - k) (drop k line) in
    subst (HasAtFront line (take end rest)) (sym (take_rest rest end))
    (word_parts line rest k end (sym c.in_ok-line.ensures) (take_rest line k))
