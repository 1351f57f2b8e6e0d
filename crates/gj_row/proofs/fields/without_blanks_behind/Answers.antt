use Rattle.std.proofs.Common.{sym, ap, ◌∙◌, ◌-◌, take, reverse, length, unwrap_or}
use Rattle.std.proofs.lemmas.List.{length-reverse}
use Rattle.gj_lex.proofs.CanonicalTexts.{position_unwrapped}
use Rattle.gj_row.proofs.Lists.{take_from_end}
use Rattle.gj_row.proofs.fields.without_blanks_behind.Goals as goal

pub returns : goal.returns
returns c =
    let field = c.args.field.now in
    ap (λ n. take (length field - n) field)
    (c.unwrap_or.ensures ∙ ap (unwrap_or c.last_visible.result) (sym (length-reverse field))
    ∙ ap (λ o. unwrap_or o (length (reverse field))) c.last_visible.ensures
    ∙ position_unwrapped _ (reverse field))
    ∙ take_from_end field _
