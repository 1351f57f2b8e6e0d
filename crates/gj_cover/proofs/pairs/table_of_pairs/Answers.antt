use Rattle.std.proofs.Common.{sym, ◌∙◌, subst}
use Rattle.gj_cover.specs.Sides.{AreOwnSides}
use Rattle.gj_cover.proofs.MirroredPairs.{own_sides, tells_pairs}
use Rattle.gj_cover.proofs.pairs.table_of_pairs.Goals as goal

pub with_own_sides-requires-clause-sides : goal.with_own_sides-requires-clause-sides
with_own_sides-requires-clause-sides c =
    let rows = c.in_ok-rows.rows.items in
    subst (λ k. AreOwnSides c.order.result rows k) (sym c.place.ensures.value)
    (subst (λ q. AreOwnSides q rows c.args.shape.now.place) (sym c.order.ensures.value)
    (own_sides c.args.shape.now rows c.order.ensures.limits
    (c.is_mirrored.ensures c.if-is_mirrored.true) c.in_ok-rows.ensures.rows
    c.in_ok-rows.ensures.round))

pub returns-then-is_mirrored-clause-tells : goal.returns-then-is_mirrored-clause-tells
returns-then-is_mirrored-clause-tells c =
    tells_pairs c.args.shape.now c.with_own_sides.result c.in_ok-rows.rows.items
    c.order.ensures.limits
    (c.with_own_sides.ensures.order ∙ c.order.ensures.value) c.with_own_sides.ensures.rows
    c.in_ok-rows.ensures.rows

pub returns-clause-tells : goal.returns-clause-tells
returns-clause-tells c =
    tells_pairs c.args.shape.now c.in_ok-table.table c.in_ok-rows.rows.items
    c.order-2.ensures.limits
    (c.in_ok-table.ensures.order ∙ c.order-2.ensures.value) c.in_ok-table.ensures.rows
    c.in_ok-rows.ensures.rows
