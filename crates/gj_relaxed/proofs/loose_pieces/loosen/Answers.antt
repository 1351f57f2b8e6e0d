use Rattle.std.proofs.Common.{inr, Err, refl, ap, ◌∙◌}
use Rattle.gj_relaxed.proofs.loose_pieces.loosen.Goals as goal

pub returns-in-Err-Wide : goal.returns-in-Err-Wide
returns-in-Err-Wide c =
    inr (c.loose_piece.ensures.wide (c.in-Err-Wide.is ∙ ap Err c.in-Err-Wide.field-0-is), refl)
