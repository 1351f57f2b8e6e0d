use Rattle.std.proofs.Common.{subst}
use Rattle.gj_shape.specs.Additive.{IsTight}
use Rattle.gj_cover.specs.CoverOf.{IsCoverOf}
use Rattle.gj_cover.specs.Table.{IsTightInTable}
use Rattle.gj_cover.proofs.Transfers.{cover_on}
use Rattle.gj_cover.proofs.covering.cover_of_pairs.Goals as goal

pub returns : goal.returns
returns c =
    let t = c.in_ok-table.table in
    let f = c.args.shape.now in
    let tells = c.in_ok-table.ensures.tells in
    cover_on f.order (IsTightInTable t) (IsTight f) c.in_ok-found.found (λ i j. (tells i j).0)
    (λ i j. (tells i j).1)
    (subst (λ q. IsCoverOf q (IsTightInTable t) c.in_ok-found.found) c.in_ok-table.ensures.order
    c.in_ok-found.ensures)
