use Rattle.std.proofs.Common.{length, refl, subst, arith}
use Rattle.gj_cover.specs.SetRows.{AreColumns}
use Rattle.gj_cover.proofs.Turned.{firsts_are}
use Rattle.gj_cover.proofs.transposed.first_indices.Goals as goal

pub returns-clause-firsts : goal.returns-clause-firsts
returns-clause-firsts c =
    let n = length c.args.rows.now in
    let turned = c.in_ok-turned.turned.items in
    let columns = c.in_ok-firsts.ensures.columns in
    firsts_are n n c.args.rows.now turned c.in_ok-firsts.firsts.items
    (omega (arith, c.requires.some)) refl c.in_ok-turned.ensures.turned
    (subst (λ m. AreColumns m turned c.in_ok-firsts.firsts.items) c.in_ok-turned.ensures.length
    (subst (λ l. AreColumns (length l) l c.in_ok-firsts.firsts.items) c.as_slice.ensures.value
    columns))
