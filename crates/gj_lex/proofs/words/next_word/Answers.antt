use Rattle.std.proofs.Common.{◌+◌, ◌-◌, ◌∙◌, ap, unwrap_or, length, take, drop}
use Rattle.std.specs.List.{position_or_len}
use Rattle.std.proofs.lemmas.List.{take_rest}
use Rattle.gj_lex.specs.Words.{is_blank}
use Rattle.gj_lex.proofs.CanonicalTexts.{position_unwrapped}
use Rattle.gj_lex.proofs.Places.{first_from}
use Rattle.gj_lex.proofs.WordRuns.{is_word_byte, blank_to_end, word_at}
use Rattle.gj_lex.proofs.words.next_word.Goals as goal

pub returns-in_err-start-clause-none : goal.returns-in_err-start-clause-none
returns-in_err-start-clause-none c =
    let place = first_from is_word_byte c.args.line.now c.args.from _ c.requires
    c.first_byte.ensures in
    rw c.from_residual.ensures
    (blank_to_end c.args.line.now c.args.from (place.1 c.in_err-start.was))

pub returns-clause-word : goal.returns-clause-word
returns-clause-word c =
    let line = c.args.line.now in
    let start = c.args.from + c.in_ok-start.field-0 in
    let place = first_from is_word_byte line c.args.from _ c.requires c.first_byte.ensures in
    let at = place.0 _ c.in_ok-start.was in
    let behind = take (length line - start) (drop start line) in
    let len = c.unwrap_or-len.ensures ∙ ap (λ o. unwrap_or o (length behind)) c.first_blank.ensures
    ∙ position_unwrapped is_blank behind
    ∙ ap (position_or_len is_blank) (take_rest line start) in
    word_at line c.args.from _ _ at.0 at.1 (ap (λ n. start + n) len)
