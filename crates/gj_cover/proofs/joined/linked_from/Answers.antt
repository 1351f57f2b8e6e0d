use Rattle.std.proofs.Common.{refl, ◌+◌, ◌%◌, ◌&&◌, ◌||◌, Bool, ap, ap₂, ◌∙◌, arith}
use Rattle.std.proofs.Math.Nat.{mod-lt}
use Rattle.gj_loops.specs.IndexSets.{has}
use Rattle.gj_cover.proofs.LinkSets.{linked_from}
use Rattle.gj_cover.proofs.Turns.{place_of, turned_place, turned_in, back_in}
use Rattle.gj_cover.proofs.joined.linked_from.Goals as goal

pub returns : goal.returns
returns c j below =
    let t = c.args.table.now in
    let q = t.order in
    let i = c.args.i in
    let n = c.order-order.result in
    let is = c.order-order.ensures.value in
    let k = place_of q i j in
    let place = turned_place q i j c.requires below in
    let next = mod-lt (j + 1) {m = q} (omega arith) in
    linked_from t i j k (has c.or.result j) (has c.and-diagonal.result j)
    (has c.turned-horizontal.result j) (has c.turned-vertical.result j)
    c.requires below place.0 place.1
    (c.or.ensures j ∙ ap (λ x. x || has c.turned-vertical.result j) (c.or-links.ensures j))
    (c.and-diagonal.ensures j ∙ ap₂ (λ (x y : Bool). x && y) (c.row-next_row.ensures j below)
    (back_in q q j (has c.row-row.result.now) (has c.turned_back.result j) refl below
    (c.turned_back.ensures j)
    ∙ c.row-row.ensures ((j + 1) % q) next))
    (turned_in q n i j (has c.and.result) (has c.turned-horizontal.result j) is below
    (c.turned-horizontal.ensures j)
    ∙ c.and.ensures k ∙ ap₂ (λ (x y : Bool). x && y) (c.row-row.ensures k place.0)
    (c.row-next_row.ensures k place.0))
    (turned_in q n i j (has c.and-2.result) (has c.turned-vertical.result j) is below
    (c.turned-vertical.ensures j)
    ∙ c.and-2.ensures k ∙ ap₂ (λ (x y : Bool). x && y) (c.column-column.ensures k place.0)
    (c.column-next_column.ensures k place.0))
