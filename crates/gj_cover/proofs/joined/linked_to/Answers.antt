use Rattle.std.proofs.Common.{◌≡◌, ◌+◌, ◌%◌, ◌&&◌, ◌||◌, Bool, refl, ap, ap₂, sym, ◌∙◌, arith}
use Rattle.std.proofs.Math.Nat.{mod-lt, mod-eq_of_lt}
use Rattle.gj_loops.specs.IndexSets.{has}
use Rattle.gj_cover.proofs.LinkSets.{linked_to, sum_next, horizontal_at}
use Rattle.gj_cover.proofs.Turns.{place_of, turned_place, back_in}
use Rattle.gj_cover.proofs.joined.linked_to.Goals as goal

pub returns : goal.returns
returns c j below =
    let t = c.args.table.now in
    let q = t.order in
    let i = c.args.i in
    let k = place_of q j i in
    let place = turned_place q j i below c.requires in
    let next = mod-lt (j + 1) {m = q} (omega arith) in
    let up = (j + 1) % q in
    let sum : (j + k) % q ≡ i % q = place.1 ∙ sym (mod-eq_of_lt c.requires) in
    let turned : k + j ≡ j + k = omega arith in
    let turned_next : k + up ≡ up + k = omega arith in
    linked_to t i j k (has c.or-2.result j) (has c.and-diagonal.result j)
    (has c.and-horizontal.result j) (has c.and-vertical.result j)
    c.requires below place.0 place.1
    (c.or-2.ensures j ∙ ap (λ x. x || has c.and-vertical.result j) (c.or.ensures j))
    (c.and-diagonal.ensures j ∙ ap₂ (λ (x y : Bool). x && y) (c.column-next_column.ensures j below)
    (back_in q q j (has c.column-column.result.now) (has c.turned_back-2.result j) refl below
    (c.turned_back-2.ensures j)
    ∙ c.column-column.ensures up next))
    (horizontal_at t i j (has c.firsts.result.now) (has c.firsts-2.result.now)
    (has c.turned_back.result j) (has c.and-horizontal.result j)
    c.requires below (c.and-horizontal.ensures j) (c.turned_back.ensures j) c.firsts.ensures
    c.firsts-2.ensures)
    (c.and-vertical.ensures j
    ∙ ap₂ (λ (x y : Bool). x && y)
    (c.seconds.ensures k j place.0 below (ap (λ m. m % q) turned ∙ sum))
    (back_in q q j (has c.seconds-2.result.now) (has c.turned_back-3.result j) refl below
    (c.turned_back-3.ensures j)
    ∙ c.seconds-2.ensures k up place.0 next (ap (λ m. m % q) turned_next ∙ sum_next q i j k sum)))
