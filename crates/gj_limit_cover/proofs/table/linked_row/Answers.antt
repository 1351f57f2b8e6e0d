use Rattle.std.proofs.Common.{◌≡◌, ◌&&◌, ltb, refl, subst}
use Rattle.gj_loops.specs.IndexSets.{has}
use Rattle.gj_jumps.specs.LimitCover.{IsTightAt}
use Rattle.gj_cover.proofs.Turns.{place_of}
use Rattle.gj_limit_cover.proofs.Complexes.{complex_of}
use Rattle.gj_limit_cover.proofs.LinkRows.{linked_row}
use Rattle.gj_limit_cover.proofs.table.linked_row.Goals as goal

pub returns : goal.returns
returns c j =
    let f = c.args.shape.now in
    let q = f.order in
    let i = c.args.i in
    let row = c.row-row.result.now in
    let told = c.row-row.ensures f c.requires.joins in
    linked_row q (IsTightAt f) (complex_of f c.order-order.ensures.limits) i j (has c.or.result j)
    (has c.turned.result j) (has row.diagonal j) (has row.horizontal) (has row.diagonal)
    c.requires.within (c.or.ensures j)
    (subst (λ n. has c.turned.result j ≡ (ltb j n && has row.horizontal (place_of n i j)))
    c.order-order.ensures.value (c.turned.ensures j))
    refl told.horizontal told.diagonal
