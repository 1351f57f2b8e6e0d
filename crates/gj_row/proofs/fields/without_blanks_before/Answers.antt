use Rattle.std.proofs.Common.{ap, ◌∙◌, drop, length, unwrap_or}
use Rattle.std.proofs.lemmas.List.{take_rest}
use Rattle.gj_lex.proofs.CanonicalTexts.{position_unwrapped}
use Rattle.gj_row.proofs.fields.without_blanks_before.Goals as goal

pub returns : goal.returns
returns c =
    let field = c.args.field.now in
    take_rest field c.unwrap_or.result
    ∙ ap (λ n. drop n field)
    (c.unwrap_or.ensures ∙ ap (λ o. unwrap_or o (length field)) c.first_visible.ensures
    ∙ position_unwrapped _ field)
