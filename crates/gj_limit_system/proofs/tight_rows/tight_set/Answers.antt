use Rattle.std.proofs.Common.{◌&&◌, ℕ, ap, ◌∙◌, arith}
use Rattle.gj_loops.specs.IndexSets.{has}
use Rattle.gj_limit_system.proofs.VertexSets.{plain_set, turned_set}
use Rattle.gj_limit_system.proofs.tight_rows.tight_set.Goals as goal

pub returns-then-terms-eq0 : goal.returns-then-terms-eq0
returns-then-terms-eq0 c =
    let f = c.args.shape.now in
    plain_set f c.order-order.ensures.limits c.args.kind c.args.corner c.args.a c.order-order.result
    c.index_before.result c.terms_of-terms.result c.requires.corner c.requires.within
    c.order-order.ensures.value c.terms_of-terms.ensures.table c.index_before.ensures.value
    (λ (b : ℕ). has c.row-row.result b) c.if-terms-eq0.true c.row-row.ensures

pub returns : goal.returns
returns c b =
    let f = c.args.shape.now in
    let other = c.if-terms-eq0.false in
    let above = c.terms_of-terms.ensures.above in
    turned_set f c.order-order.ensures.limits c.args.kind c.args.corner c.args.a
    c.order-order.result c.index_before.result c.terms_of-terms.result c.requires.corner
    c.requires.within
    c.order-order.ensures.value c.terms_of-terms.ensures.table c.index_before.ensures.value
    (λ (v : ℕ). has c.row-row.result v) (has c.and.result b) (has c.turned_up-turned.result b) b
    (omega (arith, other, above)) c.row-row.ensures
    (c.and.ensures b ∙ ap (λ x. has c.turned_up-turned.result b && x) (c.below.ensures b))
    (c.turned_up-turned.ensures b)
