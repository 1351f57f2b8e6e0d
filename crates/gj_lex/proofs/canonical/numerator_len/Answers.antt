use Rattle.std.proofs.Common.{ap, ◌∙◌, unwrap_or, length}
use Rattle.gj_lex.proofs.CanonicalTexts.{position_unwrapped}
use Rattle.gj_lex.proofs.canonical.numerator_len.Goals as goal

pub returns : goal.returns
returns c =
    c.unwrap_or.ensures ∙ ap (λ o. unwrap_or o (length c.args.word.now)) c.first_slash.ensures
    ∙ position_unwrapped _ c.args.word.now
